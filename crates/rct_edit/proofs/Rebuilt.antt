-- Demand 2, rebuilt: making from an accepted section's header and loop, in any buffer with room, and appending every link that was read, gives the old bytes up to the CRC and then the right CRC; what lay behind stays.
-- Assumes nothing.
use mathlib.Core.Path.{◌≡◌, refl, sym, ap, ◌∙◌}
use Prim.Native.Nat.{ℕ, ◌+◌, ◌-◌, ◌≤◌, max}
use native.Mathlib.Omega.{arith}
use mathlib.Core.Bool.{true}
use mathlib.Core.List.{List, [], ◌∷◌, ◌++◌, append_assoc, append-nil}
use lib.ListN.{length, take, drop, length-append, length-drop}
use lib.Seq.{drop_at, drop-drop}
use Rattle.wire.specs.Lists.{Bytes}
use Rattle.wire.specs.Numbers.{bytes32}
use Rattle.crc.specs.Crc.{crc_of}
use Rattle.link.specs.Syntax.{Link}
use Rattle.section_header.specs.Reading.{header_at}
use Rattle.frame.specs.Syntax.{limit}
use Rattle.frame.specs.Reading.{checked_demands, declared, payload_end, total_of}
use Rattle.rct.specs.Syntax.{Section, links_bytes, section_length, full_length, sealed, EntryFits, LinksFit, Fits}
use Rattle.rct.specs.Reading.{section_at, reading, plain}
use Rattle.rct.proofs.Links.{links-append}
use Rattle.rct.proofs.Accepted.{length-payload, accepted, length_is, rebuild, accepted-fits}
use Rattle.rct.proofs.Checked.{within-iff, length-sealed, Holds, sealed-holds, holds-total}
use Rattle.rct_edit.specs.Edit.{with_links, bare, with_next, written, fresh, made, appended}
use Rattle.rct_edit.proofs.Calls.{Stepped, CanAppend, append-stepped, make-stepped}
use Rattle.wire.specs.Verdict.{Fine}

-- links appended one after the other, none of which is refused for what it is: the buffer at the end
abbrev pub appends : List ℕ → List Link → List ℕ
appends zs [] = zs
appends zs (l ∷ ls) = appends (appended zs Fine l).buffer ls

-- no call is refused
abbrev pub NoneRefused : List ℕ → List Link → Type 0
NoneRefused zs [] = Unit {0}
NoneRefused zs (l ∷ ls) = ((appended zs Fine l).verdict ≡ Fine) × NoneRefused (appended zs Fine l).buffer ls

-- ---- a section with its first links only

prefix-fit : (a b : List Link) → LinksFit (a ++ b) → LinksFit a
prefix-fit [] b f = tt
prefix-fit (x ∷ a) b f = (f.0, prefix-fit a b f.1)

middle-fits : (a : List Link) (l : Link) (b : List Link) → LinksFit (a ++ l ∷ b) → EntryFits l
middle-fits [] l b f = f.0
middle-fits (x ∷ a) l b f = middle-fits a l b f.1

prefix-length : (s : Section) (a b : List Link) → section_length (with_links s a) ≤ section_length (with_links s (a ++ b))
unfolding section_length
prefix-length s a b =
    omega (arith, length-payload (with_links s a), length-payload (with_links s (a ++ b)), ap length (links-append a b), length-append (links_bytes a) (links_bytes b))

prefix-fits : (s : Section) (a b : List Link) → Fits checked_demands (with_links s (a ++ b)) → Fits checked_demands (with_links s a)
prefix-fits s a b f =
    record {
      header = f.header;
      count = omega (arith, f.count, length-append a b);
      links = prefix-fit a b f.links;
      loop = f.loop;
      indicated = f.indicated;
      fits = omega (arith, f.fits, prefix-length s a b);
    }

-- ---- one more link

-- a buffer that holds the section with links a, and behind it what zs has there
abbrev front : Section → List ℕ → List Link → List ℕ
front s zs a = fresh zs (with_links s a)

length_front : (s : Section) (zs : List ℕ) (a : List Link) → full_length (with_links s a) ≤ length zs → length (front s zs a) ≡ length zs
unfolding fresh
length_front s zs a h = simp (length-append, length-sealed (with_links s a), length-drop) (omega arith)

front-holds : (s : Section) (zs : List ℕ) (a : List Link) → Fits checked_demands (with_links s a) → Holds (with_links s a) (front s zs a)
unfolding fresh
front-holds s zs a f = sealed-holds (with_links s a) (drop (full_length (with_links s a)) zs) f

behind : (p zs : List ℕ) (n m : ℕ) → length p ≡ n → n ≤ m → drop m (p ++ drop n zs) ≡ drop m zs
behind p zs n m l h =
    let sum : n + (m - n) ≡ m = omega arith in
    ap (λ i. drop i (p ++ drop n zs)) (sym sum) ∙ sym (drop-drop (m - n) n (p ++ drop n zs)) ∙ ap (drop (m - n)) (drop_at p (drop n zs) n l)
    ∙ drop-drop (m - n) n zs ∙ ap (λ i. drop i zs) sum

-- where the section grows nothing is filled, and what lay behind stays
grows : (s : Section) (zs : List ℕ) (a b : List Link) → Fits checked_demands (with_links s a) → written (front s zs a) (with_links s (a ++ b)) ≡ front s zs (a ++ b)
unfolding written fresh
grows s zs a b f =
    let t : total_of (front s zs a) ≡ full_length (with_links s a) = holds-total (with_links s a) (front s zs a) (front-holds s zs a f) in
    let u : full_length (with_links s a) ≤ full_length (with_links s (a ++ b)) = omega (arith, prefix-length s a b) in
    let none : total_of (front s zs a) - full_length (with_links s (a ++ b)) ≡ 0 = omega arith in
    let most : max (total_of (front s zs a)) (full_length (with_links s (a ++ b))) ≡ full_length (with_links s (a ++ b)) = omega arith in
    rw (none, most)
    (ap (λ r. sealed (with_links s (a ++ b)) ++ r)
    (behind (sealed (with_links s a)) zs (full_length (with_links s a)) (full_length (with_links s (a ++ b))) (length-sealed (with_links s a)) u))

one_more : (s : Section) (zs : List ℕ) (a : List Link) (l : Link) (b : List Link) → Fits checked_demands (with_links s (a ++ l ∷ b)) → full_length (with_links s (a ++ l ∷ b)) ≤ length zs
    → ((appended (front s zs a) Fine l).verdict ≡ Fine) × ((appended (front s zs a) Fine l).buffer ≡ front s zs (a ++ l ∷ []))
unfolding with_next
one_more s zs a l b f r = (st.verdict, st.buffer ∙ grows s zs a (l ∷ []) old)
  where
    more : (a ++ l ∷ []) ++ b ≡ a ++ l ∷ b
    more = append_assoc a (l ∷ []) b

    old : Fits checked_demands (with_links s a)
    old = prefix-fits s a (l ∷ b) f

    up : section_length (with_links s (a ++ l ∷ [])) ≤ section_length (with_links s (a ++ l ∷ b))
    up = rw (← more) (prefix-length s (a ++ l ∷ []) b)

    can : CanAppend (with_links s a) (length (front s zs a)) Fine l
    can = record {
      below = omega (arith, f.count, length-append a (l ∷ b));
      link = refl;
      room_for = record {
        fit = omega (arith, f.fits, up);
        enough = rw (length_front s zs a (omega (arith, r, prefix-length s a (l ∷ b)))) (omega (arith, r, up));
      };
    }

    st : Stepped (with_next (with_links s a) l) (written (front s zs a) (with_next (with_links s a) l)) (front s zs a) (appended (front s zs a) Fine l)
    st = append-stepped Fine l (λ e. (middle-fits a l b f.links).link) (with_links s a) (front s zs a) (front-holds s zs a old) can

-- links b appended to a section with links a
build : (s : Section) (zs : List ℕ) (a b : List Link) → Fits checked_demands (with_links s (a ++ b)) → full_length (with_links s (a ++ b)) ≤ length zs
    → NoneRefused (front s zs a) b × (appends (front s zs a) b ≡ front s zs (a ++ b))
build s zs a [] f r = (tt, ap (front s zs) (sym (append-nil a)))
build s zs a (l ∷ b) f r =
    let more : (a ++ l ∷ []) ++ b ≡ a ++ l ∷ b = append_assoc a (l ∷ []) b in
    let one = one_more s zs a l b f r in
    let i = build s zs (a ++ l ∷ []) b (rw more f) (rw more r) in
    ((one.0, rw one.1 i.0), rw one.1 (i.1 ∙ ap (front s zs) more))

-- ---- the theorem

pub record Rebuilt (xs zs : List ℕ) (s : Section) : Type 0 where
  pub made_fine : (made zs Fine (bare s.header s.loop)).verdict ≡ Fine
  pub appended_fine : NoneRefused (made zs Fine (bare s.header s.loop)).buffer s.links
  pub bytes : appends (made zs Fine (bare s.header s.loop)).buffer s.links
      ≡ (take (payload_end xs) xs ++ bytes32 (crc_of (take (payload_end xs) xs))) ++ drop (total_of xs) zs

-- the section that was read, in a buffer
same : (xs zs : List ℕ) → Bytes xs → reading checked_demands xs ≡ Fine → fresh zs (section_at xs) ≡ (take (payload_end xs) xs ++ bytes32 (crc_of (take (payload_end xs) xs))) ++ drop (total_of xs) zs
unfolding fresh sealed
same xs zs b v = rw (rebuild checked_demands xs b v, length_is checked_demands xs b (accepted checked_demands xs b v))

pub rebuilt : (xs zs : List ℕ) → Bytes xs → plain xs ≡ Fine → (header_at xs).section_syntax_indicator ≡ true → declared xs ≤ limit → total_of xs ≤ length zs → Rebuilt xs zs (section_at xs)
rebuilt xs zs b v i l r = record { made_fine = m.verdict; appended_fine = rw m.buffer all.0; bytes = rw m.buffer (all.1 ∙ same xs zs b in-limit) }
  where
    s : Section
    s = section_at xs

    in-limit : reading checked_demands xs ≡ Fine
    in-limit = (within-iff checked_demands xs (omega arith)).1 (record { plainly = v; indicated = λ e. i; limited = l })

    fits : Fits checked_demands s
    fits = accepted-fits checked_demands xs b in-limit

    len : section_length s ≡ declared xs
    len = length_is checked_demands xs b (accepted checked_demands xs b in-limit)

    first : Fits checked_demands (bare s.header s.loop)
    first = prefix-fits s [] s.links fits

    m : Stepped (bare s.header s.loop) (front s zs []) zs (made zs Fine (bare s.header s.loop))
    m = make-stepped Fine s.header s.loop (λ e. record { header = fits.header; indicated = fits.indicated refl; loop = fits.loop }) zs
        (record { parts = refl; room_for = record { fit = first.fits; enough = omega (arith, len, prefix-length s [] s.links) } })

    all : NoneRefused (front s zs []) s.links × (appends (front s zs []) s.links ≡ fresh zs s)
    all = build s zs [] s.links fits (omega (arith, len))
