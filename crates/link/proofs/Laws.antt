-- What ties a link's syntax and its reading together, for the layers above.
-- Assumes nothing.
use mathlib.Core.Path.{◌≡◌, refl, sym, ap, ◌∙◌}
use Prim.Native.Nat.{ℕ, ◌≤◌, ◌<◌, ◌+◌, ◌*◌, ◌/◌, ◌%◌}
use native.Mathlib.Omega.{arith}
use mathlib.Core.Bool.{Bool, true, false}
use mathlib.Core.List.{List, [], ◌∷◌, ◌++◌}
use mathlib.Core.Option.{Option, none, some}
use mathlib.Core.Logic.{◌↔◌}
use lib.ListN.{length}
use Rattle.wire.specs.Choice.{bit}
use Rattle.wire.specs.Lists.{Bytes}
use Rattle.length_field.specs.Lengths.{block_bytes, length_bytes}
use Rattle.wire.proofs.Lists.{bytes-append}
use Rattle.length_field.proofs.Blocks.{length_bytes-bytes}
use Rattle.locator.specs.declared.DvbBinaryLocator.{DvbBinaryLocator}
use Rattle.locator.proofs.Spelling.{spelt-bytes}
use Rattle.link.specs.Syntax.{Link, LinkFits, UriFits, LocatorFits, field_bytes, uri_bytes, locator_part, items_bytes, tail_of, link_body}
use Rattle.link.specs.Reading.{body_verdict, link_at}
use Rattle.link.proofs.Items.{items-bytes}
use Rattle.link.proofs.Back.{body-passed, body-read, tail-fits}
use Rattle.link.proofs.Rebuild.{body-rebuilt, link_fits}
use Rattle.wire.specs.Verdict.{Fine}

-- the body of a fitting link is accepted, and reads as that link
pub link-back : (l : Link) → LinkFits l → (body_verdict (link_body l) ≡ Fine) × (link_at l.length_reserved (link_body l) ≡ l)
link-back l f = (body-passed l f, body-read l f)

-- a body that is accepted is the syntax's bytes of the link read, and that link fits
pub link-rebuild : (r : ℕ) (xs : List ℕ) → Bytes xs → r ≤ 15 → body_verdict xs ≡ Fine → LinkFits (link_at r xs) × (link_body (link_at r xs) ≡ xs)
link-rebuild r xs b h v = (link_fits r xs b h v, body-rebuilt r xs b h v)

-- the four bits of the entry are the link's
pub link-beside : (r : ℕ) (xs : List ℕ) → (link_at r xs).length_reserved ≡ r
unfolding link_at
link-beside r xs = refl

-- accepted exactly by the syntax
pub record Spelt (xs : List ℕ) : Type 0 where
  pub link : Link
  pub fits : LinkFits link
  pub bytes : xs ≡ link_body link

pub accepted-iff : (xs : List ℕ) → Bytes xs → (body_verdict xs ≡ Fine) ↔ Spelt xs
accepted-iff xs b = (
  (λ v. let r = link-rebuild 0 xs b (omega arith) v in record { link = link_at 0 xs; fits = r.0; bytes = sym r.1 }),
  (λ s. ap body_verdict s.bytes ∙ body-passed s.link s.fits),
)

-- no two fitting links with the same four bits share a body
pub one_link : (l m : Link) → LinkFits l → LinkFits m → l.length_reserved ≡ m.length_reserved → link_body l ≡ link_body m → l ≡ m
one_link l m f g r e = sym (body-read l f) ∙ ap (λ x. link_at x (link_body l)) r ∙ ap (link_at m.length_reserved) e ∙ body-read m g

uri-bytes : (u : Option (List ℕ)) → UriFits u → Bytes (uri_bytes u)
unfolding uri_bytes
uri-bytes none f = tt
uri-bytes (some u) f = (omega (arith, f.0), f.1)

place-bytes : (m : Option DvbBinaryLocator) → LocatorFits m → Bytes (locator_part m)
unfolding locator_part
place-bytes none f = tt
place-bytes (some l) f = spelt-bytes l f

fields-bytes : (l : Link) → LinkFits l → Bytes (field_bytes l)
unfolding field_bytes
fields-bytes l f =
    let h1 = f.link_type in
    let h2 = f.type_reserved in
    let h3 = f.how_related in
    let h4 = f.term_id in
    let h5 = f.group_id in
    let h6 = f.precedence in
    (omega arith, (omega arith, (omega arith, (omega arith, tt))))

tail-bytes : (l : Link) → LinkFits l → Bytes (block_bytes (tail_of l))
unfolding block_bytes
tail-bytes l f =
    let t = tail-fits l f in
    bytes-append (length_bytes (tail_of l).beside (length l.descriptors)) l.descriptors (length_bytes-bytes _ _ t.narrow t.short) t.bytes

pub link-bytes : (l : Link) → LinkFits l → Bytes (link_body l)
unfolding link_body
link-bytes l f =
    bytes-append (field_bytes l) _ (fields-bytes l f)
    (bytes-append (uri_bytes l.uri) _ (uri-bytes l.uri f.uri)
    (bytes-append (locator_part l.locator) _ (place-bytes l.locator f.locator)
    (bytes-append (_ ∷ items_bytes l.items) _ (omega (arith, f.items_reserved, f.count), items-bytes l.items f.items) (tail-bytes l f))))
