-- The records with a link with_link in or added: which links they have, and that they fit.
-- Assumes nothing.
use mathlib.Core.Path.{◌≡◌, refl, ap}
use mathlib.Core.Logic.{◌≢◌}
use Prim.Native.Nat.{ℕ, zero, suc, ◌+◌, ◌≤◌, ◌<◌}
use native.Mathlib.Nat.{not-suc-le-zero, le_of_suc-le-suc}
use native.Mathlib.Omega.{arith}
use mathlib.Core.List.{List, [], ◌∷◌, ◌++◌}
use lib.ListN.{length, get_or, set, length-append, length-set, get_or-append}
use lib.Seq.{set_comm, get_or-set_same, get_or-set_other}
use Rattle.length_field.specs.Lengths.{longest, block_bytes}
use Rattle.link.specs.Syntax.{Link, LinkFits, link_body, entry_of}
use Rattle.frame.specs.Syntax.{limit}
use Rattle.frame.specs.Reading.{checked_demands}
use Rattle.rct.specs.Syntax.{Section, links_bytes, section_length, EntryFits, LinksFit, Fits}
use Rattle.rct.proofs.Links.{entry_length}
use Rattle.rct.proofs.Accepted.{length-payload}
use Rattle.rct_edit.specs.Edit.{most_links, with_links, with_link, with_next}

-- ---- the links

-- link k is the new one, and those that are not named stay
pub with-named : (s : Section) (k : ℕ) (l d : Link) → k < length s.links → get_or (with_link s k l).links k d ≡ l
unfolding with_link
with-named s k l d h = get_or-set_same s.links k l d h

pub with-others : (s : Section) (k i : ℕ) (l d : Link) → i ≢ k → get_or (with_link s k l).links i d ≡ get_or s.links i d
unfolding with_link
with-others s k i l d n = get_or-set_other s.links k i l d n

pub length-with : (s : Section) (k : ℕ) (l : Link) → length (with_link s k l).links ≡ length s.links
unfolding with_link
length-with s k l = length-set s.links k l

-- the new link is the last, and those before it stay
pub next_last : (s : Section) (l d : Link) → get_or (with_next s l).links (length s.links) d ≡ l
unfolding with_next
next_last s l d = last s.links
  where
    last : (ls : List Link) → get_or (ls ++ l ∷ []) (length ls) d ≡ l
    last [] = refl
    last (x ∷ ls) = last ls

pub next-others : (s : Section) (i : ℕ) (l d : Link) → i < length s.links → get_or (with_next s l).links i d ≡ get_or s.links i d
unfolding with_next
next-others s i l d h = get_or-append s.links (l ∷ []) d i h

pub length-next : (s : Section) (l : Link) → length (with_next s l).links ≡ length s.links + 1
unfolding with_next
length-next s l = length-append s.links (l ∷ [])

-- two links that are with_link in at different numbers, in either order
pub with_two : (s : Section) (k j : ℕ) (l m : Link) → k ≢ j → with_link (with_link s k l) j m ≡ with_link (with_link s j m) k l
unfolding with_link
with_two s k j l m n = ap (with_links s) (set_comm s.links k j l m n)

-- ---- a link's bytes are among the links' bytes

pub put-within : (ls : List Link) (k : ℕ) (l : Link) → k < length ls → 2 + length (link_body l) ≤ length (links_bytes (set ls k l))
put-within [] k l h = absurd (not-suc-le-zero h)
put-within (x ∷ ls) zero l h = omega (arith, length-append (block_bytes (entry_of l)) (links_bytes ls), entry_length l)
put-within (x ∷ ls) (suc k) l h = omega (arith, length-append (block_bytes (entry_of x)) (links_bytes (set ls k l)), put-within ls k l (le_of_suc-le-suc h))

pub last_within : (ls : List Link) (l : Link) → 2 + length (link_body l) ≤ length (links_bytes (ls ++ l ∷ []))
last_within [] l = omega (arith, length-append (block_bytes (entry_of l)) [], entry_length l)
last_within (x ∷ ls) l = omega (arith, length-append (block_bytes (entry_of x)) (links_bytes (ls ++ l ∷ [])), last_within ls l)

-- so in a section within the limit its body's length is told by 12 bits
body-short : (s : Section) (l : Link) → 2 + length (link_body l) ≤ length (links_bytes s.links) → section_length s ≤ limit → length (link_body l) ≤ longest
unfolding section_length
body-short s l h f = omega (arith, length-payload s)

pub with-short : (s : Section) (k : ℕ) (l : Link) → k < length s.links → section_length (with_link s k l) ≤ limit → length (link_body l) ≤ longest
unfolding with_link
with-short s k l h = body-short (with_link s k l) l (put-within s.links k l h)

pub next-short : (s : Section) (l : Link) → section_length (with_next s l) ≤ limit → length (link_body l) ≤ longest
unfolding with_next
next-short s l = body-short (with_next s l) l (last_within s.links l)

-- ---- what fits, still fits

links-fit-set : (ls : List Link) (k : ℕ) (l : Link) → EntryFits l → LinksFit ls → LinksFit (set ls k l)
links-fit-set [] k l e f = tt
links-fit-set (x ∷ ls) zero l e f = (e, f.1)
links-fit-set (x ∷ ls) (suc k) l e f = (f.0, links-fit-set ls k l e f.1)

links-fit-more : (ls : List Link) (l : Link) → EntryFits l → LinksFit ls → LinksFit (ls ++ l ∷ [])
links-fit-more [] l e f = (e, tt)
links-fit-more (x ∷ ls) l e f = (f.0, links-fit-more ls l e f.1)

pub with-fits : (s : Section) (k : ℕ) (l : Link) → Fits checked_demands s → LinkFits l → k < length s.links → section_length (with_link s k l) ≤ limit → Fits checked_demands (with_link s k l)
with-fits s k l f e h n =
    record {
      header = unfold with_link in f.header;
      count = rw (length-with s k l) f.count;
      links = unfold with_link in links-fit-set s.links k l (record { link = e; short = with-short s k l h n }) f.links;
      loop = unfold with_link in f.loop;
      indicated = unfold with_link in f.indicated;
      fits = n;
    }

pub next_fits : (s : Section) (l : Link) → Fits checked_demands s → LinkFits l → length s.links < most_links → section_length (with_next s l) ≤ limit → Fits checked_demands (with_next s l)
next_fits s l f e h n =
    record {
      header = unfold with_next in f.header;
      count = omega (arith, length-next s l);
      links = unfold with_next in links-fit-more s.links l (record { link = e; short = next-short s l n }) f.links;
      loop = unfold with_next in f.loop;
      indicated = unfold with_next in f.indicated;
      fits = n;
    }
