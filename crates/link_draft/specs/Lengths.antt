-- How long the body of a link's record is (ETSI TS 102 323, 10.4.3, Table 110), from the record alone.
-- Assumes nothing.
use Rattle.std.specs.Prelude.{ℕ, ◌+◌, List, [], ◌∷◌, None, Some}
use Rattle.locator.specs.Syntax.{locator_length}
use Rattle.link.specs.Syntax.{head_length, uri_head, count_length, item_head}
use Rattle.link.specs.Records.{items_of}
use Rattle.link.specs.declared.LinkItem.{LinkItem}
use Rattle.link.specs.declared.LinkInfo.{LinkInfo}
use Rattle.link.specs.Options.{LinkLocator, MediaUri}

-- the default icon flag, icon_id and the descriptors' length
abbrev pub tail_head : ℕ
tail_head = 2

unfoldable pub uri_size : MediaUri → ℕ
uri_size None = 0
uri_size (Some r) = uri_head + r.length

unfoldable pub locator_size : LinkLocator → ℕ
locator_size None = 0
locator_size (Some l) = locator_length l

unfoldable pub items_size : List LinkItem → ℕ
items_size [] = 0
items_size (i ∷ is) = item_head + i.promotional_text.length + items_size is

unfoldable pub link_length : LinkInfo → ℕ
link_length k =
    let f = k.fields in
    head_length + uri_size f.media_uri + locator_size f.dvb_binary_locator + count_length + items_size (items_of k) + (tail_head + f.descriptors.length)
