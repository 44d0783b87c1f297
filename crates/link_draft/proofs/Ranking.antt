-- The rows of 22 and of 25 are those of the lists of a record's fields and ranges, one by one, and the ranks of the fields
-- rise: so the first in the row is the one of the lowest rank.
-- Assumes nothing.
use Prim.Native.Nat.{ℕ, ◌≤◌, ◌<◌}
use mathlib.Core.Path.{◌≡◌, refl, sym, ap}
use mathlib.Core.List.{List, [], ◌∷◌, ◌++◌, map}
use native.Mathlib.Omega.{arith}
use Rattle.field.specs.Fields.{start_date, locator_reserved, check_field}
use Rattle.field.proofs.Checks.{field-passed, field-pass}
use Rattle.wire.specs.Verdict.{◌▷◌, Fine, Verdict}
use Rattle.wire.proofs.Verdicts.{then-nothing}
use Rattle.locator.specs.Checks as checks
use Rattle.locator.specs.declared.DvbLocatorService.{DvbLocatorService}
use Rattle.locator.specs.declared.DvbLocatorService.TheVariants.{Triplet, Full}
use Rattle.link.specs.Records.{items_of}
use Rattle.link.specs.declared.LinkItem.{LinkItem}
use Rattle.link.specs.declared.LinkFields.{LinkFields}
use Rattle.link.specs.declared.LinkInfo.{LinkInfo}
use Rattle.link_draft.specs.Checks.{first_in, check_head, check_uri, check_locator_fields, check_count, check_end, check_fields, check_range, check_uri_range, check_ranges}
use Rattle.link_draft.specs.Carried.{Each}
use Rattle.link_draft.specs.Order.{Numbered, ◌≔◌, Held, head_numbers, uri_numbers, service_numbers, windows_numbers, locator_numbers, count_numbers, text_number, end_numbers, present_fields, uri_ranges, text_range, present_ranges, Rising}
use Rattle.link_draft.proofs.Firsts.{First, first-append, first-map}
use Rattle.link.specs.Options.{LinkLocator, MediaUri}
use Rattle.locator.specs.Windows.{Windows}
use Rattle.std.specs.Prelude.{None, Some}

-- ---- the rows

abbrev pub check_numbered : Numbered → Verdict
check_numbered p = check_field p.field p.number

pub numbered-passed : (p : Numbered) → check_numbered p ≡ Fine → Held p
numbered-passed p e = field-passed p.field p.number e

pub numbered-pass : (p : Numbered) → Held p → check_numbered p ≡ Fine
numbered-pass p h = field-pass p.field p.number h

-- rows that are those of a list, before the rows of another; and a last row
rows_then : {A : Type 0} (c : A → Verdict) (v w : Verdict) (xs ys : List A) → v ≡ first_in c xs → w ≡ first_in c ys → v ▷ w ≡ first_in c (xs ++ ys)
rows_then c v w xs ys e f = rw (e, f) (sym (first-append c xs ys))

last : (v : Verdict) → v ▷ Fine ≡ v
last v = then-nothing v Fine refl

head_rows : (f : LinkFields) → check_head f ≡ first_in check_numbered (head_numbers f)
unfolding check_head first_in
head_rows f = rw last

uri-rows : (u : MediaUri) → check_uri u ≡ first_in check_numbered (uri_numbers u)
unfolding check_uri first_in
uri-rows None = refl
uri-rows (Some r) = rw last

service-rows : (s : DvbLocatorService) → checks.check_service s ≡ first_in check_numbered (service_numbers s)
unfolding first_in
service-rows (Triplet t) = rw last
service-rows (Full r ts on sv) = rw last

windows-rows : (w : Windows) → checks.check_widths w ≡ first_in check_numbered (windows_numbers w)
unfolding first_in
windows-rows None = refl
windows-rows (Some w) = rw last

locator-rows : (m : LinkLocator) → check_locator_fields m ≡ first_in check_numbered (locator_numbers m)
unfolding check_locator_fields checks.check_fields first_in
locator-rows None = refl
locator-rows (Some l) =
    let both = rows_then check_numbered _ _ (service_numbers l.service) (windows_numbers l.windows) (service-rows l.service) (windows-rows l.windows) in
    ap (λ v. check_numbered (start_date ≔ l.start_date) ▷ (check_numbered (locator_reserved ≔ l.reserved) ▷ v)) both

count-rows : (f : LinkFields) → check_count f ≡ first_in check_numbered (count_numbers f)
unfolding check_count first_in
count-rows f = rw last

end-rows : (f : LinkFields) → check_end f ≡ first_in check_numbered (end_numbers f)
unfolding check_end first_in
end-rows f = rw last

pub fields-rows : (k : LinkInfo) → check_fields k ≡ first_in check_numbered (present_fields k)
unfolding check_fields present_fields
fields-rows k =
    let f = k.fields in
    let texts = sym (first-map check_numbered text_number (items_of k)) in
    rows_then check_numbered _ _ (head_numbers f) _ (head_rows f)
    (rows_then check_numbered _ _ (uri_numbers f.media_uri) _ (uri-rows f.media_uri)
    (rows_then check_numbered _ _ (locator_numbers f.dvb_binary_locator) _ (locator-rows f.dvb_binary_locator)
    (rows_then check_numbered _ _ (count_numbers f) _ (count-rows f) (rows_then check_numbered _ _ (map text_number (items_of k)) (end_numbers f) texts (end-rows f)))))

-- ---- the ranges

uri-range-rows : (have : ℕ) (u : MediaUri) → check_uri_range have u ≡ first_in (check_range have) (uri_ranges u)
unfolding check_uri_range first_in
uri-range-rows have None = refl
uri-range-rows have (Some r) = rw last

pub ranges-rows : (have : ℕ) (k : LinkInfo) → check_ranges have k ≡ first_in (check_range have) (present_ranges k)
unfolding check_ranges present_ranges first_in
ranges-rows have k =
    let c = check_range have in
    let texts = sym (first-map c text_range (items_of k)) in
    rows_then c _ _ (uri_ranges k.fields.media_uri) _ (uri-range-rows have k.fields.media_uri)
    (rows_then c _ _ (map text_range (items_of k)) (k.fields.descriptors ∷ []) texts (sym (last (c k.fields.descriptors))))

-- ---- the ranks rise

rising-from : (p q r : ℕ) (xs : List Numbered) → p ≤ q → Rising q r xs → Rising p r xs
unfolding Rising
rising-from p q r [] h l = omega arith
rising-from p q r (x ∷ xs) h l = (omega arith, l.1)

rising-then : (p q r : ℕ) (xs ys : List Numbered) → Rising p q xs → Rising q r ys → Rising p r (xs ++ ys)
unfolding Rising
rising-then p q r [] ys h l = rising-from p q r ys h l
rising-then p q r (x ∷ xs) ys h l = (h.0, rising-then x.field.rank q r xs ys h.1 l)

head-rising : (f : LinkFields) → Rising 1 7 (head_numbers f)
unfolding Rising
head-rising f = (omega arith, (omega arith, (omega arith, (omega arith, (omega arith, (omega arith, omega arith))))))

uri-rising : (u : MediaUri) → Rising 7 8 (uri_numbers u)
unfolding Rising
uri-rising None = omega arith
uri-rising (Some r) = (omega arith, omega arith)

locator-rising : (m : LinkLocator) → Rising 8 14 (locator_numbers m)
unfolding Rising
locator-rising None = omega arith
locator-rising (Some l) =
    (omega arith, (omega arith, rising-then 9 12 14 (service_numbers l.service) (windows_numbers l.windows) (service l.service) (widths l.windows)))
  where
    service : (s : DvbLocatorService) → Rising 9 12 (service_numbers s)
    service (Triplet t) = (omega arith, omega arith)
    service (Full r ts on sv) = (omega arith, omega arith)

    widths : (w : Windows) → Rising 12 14 (windows_numbers w)
    widths None = omega arith
    widths (Some w) = (omega arith, (omega arith, omega arith))

texts-rising : (is : List LinkItem) → Rising 16 17 (map text_number is)
unfolding Rising
texts-rising [] = omega arith
texts-rising (i ∷ is) = (omega arith, texts-rising is)

count-rising : (f : LinkFields) → Rising 14 16 (count_numbers f)
unfolding Rising
count-rising f = (omega arith, (omega arith, omega arith))

end-rising : (f : LinkFields) → Rising 17 19 (end_numbers f)
unfolding Rising
end-rising f = (omega arith, (omega arith, (omega arith, omega arith)))

pub ranks-rise : (k : LinkInfo) → Rising 1 19 (present_fields k)
unfolding present_fields
ranks-rise k =
    let f = k.fields in
    rising-then 1 7 19 (head_numbers f) _ (head-rising f)
    (rising-then 7 8 19 (uri_numbers f.media_uri) _ (uri-rising f.media_uri)
    (rising-then 8 14 19 (locator_numbers f.dvb_binary_locator) _ (locator-rising f.dvb_binary_locator)
    (rising-then 14 16 19 (count_numbers f) _ (count-rising f) (rising-then 16 17 19 (map text_number (items_of k)) (end_numbers f) (texts-rising (items_of k)) (end-rising f)))))

-- a field of a lower rank than x does not stand behind x, so it holds its number where all before x do
behind-high : (p q : ℕ) (x : Numbered) (xs : List Numbered) → x.field.rank ≤ p → Rising p q xs → Each (λ y. y.field.rank < x.field.rank → Held y) xs
unfolding Rising
behind-high p q x [] l h = tt
behind-high p q x (y ∷ xs) l h = ((λ m. absurd (omega arith)), behind-high y.field.rank q x xs (omega arith) h.1)

lower_in : (p q : ℕ) (before behind : List Numbered) (x : Numbered) → Each Held before → Rising p q (before ++ (x ∷ behind))
    → Each (λ y. y.field.rank < x.field.rank → Held y) (before ++ (x ∷ behind))
unfolding Rising
lower_in p q [] behind x g h = ((λ m. absurd (omega arith)), behind-high x.field.rank q x behind (omega arith) h.1)
lower_in p q (y ∷ before) behind x g h = ((λ m. g.0), lower_in y.field.rank q before behind x g.1 h.1)

pub lower-first : (p q : ℕ) (xs : List Numbered) (x : Numbered) → Rising p q xs → First Held xs x → Each (λ y. y.field.rank < x.field.rank → Held y) xs
lower-first p q xs x h g = rw g.order (lower_in p q g.before g.behind x g.good (rw g.order at h))

pub lower-held : (k : LinkInfo) (x : Numbered) → First Held (present_fields k) x → Each (λ y. y.field.rank < x.field.rank → Held y) (present_fields k)
lower-held k x g = lower-first 1 19 (present_fields k) x (ranks-rise k) g
