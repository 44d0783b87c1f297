-- The order of a record's refusals (docs/REFUSALS.md), in words: which refusal is answered, and what holds then of all that
-- stands before it. Each is said both ways, so that the answer to every record is settled.
-- Assumes nothing.
use Prim.Native.Nat.{ℕ, ◌<◌}
use mathlib.Core.Path.{◌≡◌, refl, sym, ap, ◌∙◌}
use mathlib.Core.Bool.{Bool, true, false}
use mathlib.Core.List.{List}
use native.Mathlib.Omega.{arith}
use lib.ListN.{length}
use Rattle.wire.specs.Refusals.{too_wide, against_type, against_rule, past_text}
use Rattle.wire.specs.Verdict.{bad, refuse, ◌▷◌, Fine}
use Rattle.wire.proofs.Verdicts.{then-fine, fine-then, go_on, stop, row-says, agree-passed, agree-pass}
use Rattle.field.specs.Fields.{check_field}
use Rattle.locator.specs.Checks as checks
use Rattle.link.specs.declared.Range.{Range}
use Rattle.link.specs.declared.LinkFields.{LinkFields}
use Rattle.link.specs.declared.LinkInfo.{LinkInfo}
use Rattle.locator.proofs.Checked.{windows-ruled, ruled-windows}
use Rattle.link_draft.specs.Checks.{check_presence, check_fields, check_locator_rule, check_range, check_ranges, check_link}
use Rattle.link_draft.specs.Carried.{Each, Within}
use Rattle.link_draft.specs.Order.{Agrees, Numbered, Held, present_fields, RuleKept, present_ranges}
use Rattle.link_draft.proofs.Rows.{range-passed, range-pass, each-passed, each-pass}
use Rattle.link_draft.proofs.Firsts.{row-refuses, Only, only-fine, only_row, only_then, only-first, only-past, only-between, only-behind, First, first-told, first-tells}
use Rattle.link_draft.proofs.Ranking.{check_numbered, numbered-passed, numbered-pass, fields-rows, ranges-rows, lower-held}
use Rattle.link.specs.Options.{LinkLocator}
use Rattle.std.specs.Prelude.{None, Some}

fine-not : (n f g : ℕ) → Fine ≡ bad n f g → ⊥
fine-not n f g e = let z : ◌≡◌ {A = ℕ} 0 1 = cc in omega arith

-- ---- each group of rows: what passing it says, and its number

module _ (f : LinkFields) where
  presence-passed : check_presence f ≡ Fine → Agrees f
  unfolding check_presence
  presence-passed e = let two = then-fine _ _ e in record { uri = agree-passed _ _ _ _ _ two.0; locator = agree-passed _ _ _ _ _ two.1 }

  presence-pass : Agrees f → check_presence f ≡ Fine
  unfolding check_presence
  presence-pass a = fine-then _ _ (agree-pass _ _ _ _ _ a.uri) (agree-pass _ _ _ _ _ a.locator)

  pub presence-only : Only against_type (check_presence f)
  unfolding check_presence
  presence-only = only_then against_type _ _ (only_row _ against_type _ _) (only_row _ against_type _ _)

-- two rows with the same number and figures
two-say : (a b : Bool) (n f g m p q : ℕ) → refuse a n f g ▷ refuse b n f g ≡ bad m p q → (f ≡ p) × (g ≡ q)
unfolding refuse ◌▷◌
two-say true b n f g m p q e = (row-says true n f g m p q e).1
two-say false b n f g m p q e = (row-says b n f g m p q e).1

two-refuse : (a b : Bool) (n f g : ℕ) → (refuse a n f g ▷ refuse b n f g ≡ Fine → ⊥) → refuse a n f g ▷ refuse b n f g ≡ bad n f g
unfolding refuse ◌▷◌
two-refuse true b n f g h = refl
two-refuse false b n f g h = row-refuses b n f g h

module _ (k : LinkInfo) where
  fields-passed : check_fields k ≡ Fine → Each Held (present_fields k)
  fields-passed e = each-passed check_numbered numbered-passed (present_fields k) (sym (fields-rows k) ∙ e)

  fields-pass : Each Held (present_fields k) → check_fields k ≡ Fine
  fields-pass h = fields-rows k ∙ each-pass check_numbered numbered-pass (present_fields k) h

  pub fields-only : Only too_wide (check_fields k)
  unfolding check_field
  fields-only = rw (fields-rows k) (only-first too_wide check_numbered (λ p. only_row _ too_wide _ _) (present_fields k))

rule-passed : (m : LinkLocator) → check_locator_rule m ≡ Fine → RuleKept m
unfolding check_locator_rule
rule-passed None e = tt
rule-passed (Some l) e = windows-ruled l e

rule-pass : (m : LinkLocator) → RuleKept m → check_locator_rule m ≡ Fine
unfolding check_locator_rule
rule-pass None r = refl
rule-pass (Some l) r = ruled-windows l r

pub rule-only : (m : LinkLocator) → Only against_rule (check_locator_rule m)
unfolding check_locator_rule checks.check_windows
rule-only None = only-fine against_rule
rule-only (Some l) = only_row _ against_rule _ _

rule-says : (m : LinkLocator) (f g : ℕ) → check_locator_rule m ≡ bad against_rule f g → (f ≡ 0) × (g ≡ 0)
unfolding check_locator_rule checks.check_windows
rule-says None f g e = absurd (fine-not against_rule f g e)
rule-says (Some l) f g e = let two = (row-says _ against_rule 0 0 against_rule f g e).1 in (sym two.0, sym two.1)

rule-tells : (m : LinkLocator) → (RuleKept m → ⊥) → check_locator_rule m ≡ bad against_rule 0 0
unfolding check_locator_rule checks.check_windows
rule-tells None h = absurd (h tt)
rule-tells (Some l) h = row-refuses _ against_rule 0 0 (λ e. h (windows-ruled l e))

pub ranges-only : (have : ℕ) (k : LinkInfo) → Only past_text (check_ranges have k)
unfolding check_range
ranges-only have k = rw (ranges-rows have k) (only-first past_text (check_range have) (λ r. only_row _ past_text _ _) (present_ranges k))

-- ---- the four refusals

module _ (t : List ℕ) (k : LinkInfo) where
  -- 23 (f, g): URI or locator are against the link type, whatever else is wrong
  pub record AgainstType (f g : ℕ) : Type 0 where
    pub presence : Agrees k.fields → ⊥
    pub type : f ≡ k.fields.link_type
    pub zero : g ≡ 0

  pub type-refused : (f g : ℕ) → check_link t k ≡ bad against_type f g → AgainstType f g
  unfolding check_link check_presence
  type-refused f g e =
      let a = only-between too_wide against_type f g (λ d. omega arith) _ _ _ (fields-only k) e in
      let b = only-between against_rule against_type f g (λ d. omega arith) _ _ _ (rule-only k.fields.dvb_binary_locator) a in
      let c = only-behind past_text against_type f g (λ d. omega arith) _ _ (ranges-only (length t) k) b in
      let two = two-say _ _ against_type _ _ _ f g c in
      record { presence = λ p. fine-not against_type f g (sym (presence-pass k.fields p) ∙ c); type = sym two.0; zero = sym two.1 }

  pub type-refuses : (Agrees k.fields → ⊥) → check_link t k ≡ bad against_type k.fields.link_type 0
  unfolding check_link check_presence
  type-refuses h = stop _ _ _ _ _ (two-refuse _ _ against_type _ _ (λ e. h (presence-passed k.fields e)))

  -- 22 (p, n): they agree, and of the present fields, items in order, the first that does not hold its number has the
  -- rank p and the number n; so each present field of a lower rank holds its own
  pub record TooWide (p n : ℕ) : Type 0 where
    pub presence : Agrees k.fields
    pub it : Numbered
    pub first : First Held (present_fields k) it
    pub rank : it.field.rank ≡ p
    pub number : it.number ≡ n
    pub lower : Each (λ x. x.field.rank < p → Held x) (present_fields k)

  pub wide-refused : (p n : ℕ) → check_link t k ≡ bad too_wide p n → TooWide p n
  unfolding check_link check_field
  wide-refused p n e =
      let a = only-past against_type too_wide p n (λ d. omega arith) _ _ (presence-only k.fields) e in
      let b = only-between against_rule too_wide p n (λ d. omega arith) _ _ _ (rule-only k.fields.dvb_binary_locator) a.1 in
      let c = only-behind past_text too_wide p n (λ d. omega arith) _ _ (ranges-only (length t) k) b in
      let f = first-told check_numbered numbered-passed numbered-pass (present_fields k) _ (sym (fields-rows k) ∙ c) in
      let says = (row-says _ too_wide _ _ too_wide p n f.told).1 in
      record {
        presence = presence-passed k.fields a.0;
        it = f.it;
        first = f.first;
        rank = says.0;
        number = says.1;
        lower = rw says.0 at (lower-held k f.it f.first);
      }

  pub wide-refuses : (x : Numbered) → Agrees k.fields → First Held (present_fields k) x → check_link t k ≡ bad too_wide x.field.rank x.number
  unfolding check_link check_field
  wide-refuses x a f =
      go_on _ _ (presence-pass k.fields a)
      ∙ stop _ _ _ _ _ (fields-rows k ∙ first-tells check_numbered numbered-passed numbered-pass (present_fields k) x _ f (row-refuses _ too_wide _ _ (λ e. f.bad (numbered-passed x e))))

  -- 24 (f, g): they agree, each present field holds its number, and the windows are against the rule
  pub record AgainstRule (f g : ℕ) : Type 0 where
    pub presence : Agrees k.fields
    pub fields : Each Held (present_fields k)
    pub rule : RuleKept k.fields.dvb_binary_locator → ⊥
    pub zeros : (f ≡ 0) × (g ≡ 0)

  pub rule-refused : (f g : ℕ) → check_link t k ≡ bad against_rule f g → AgainstRule f g
  unfolding check_link
  rule-refused f g e =
      let a = only-past against_type against_rule f g (λ d. omega arith) _ _ (presence-only k.fields) e in
      let b = only-past too_wide against_rule f g (λ d. omega arith) _ _ (fields-only k) a.1 in
      let c = only-behind past_text against_rule f g (λ d. omega arith) _ _ (ranges-only (length t) k) b.1 in
      record {
        presence = presence-passed k.fields a.0;
        fields = fields-passed k b.0;
        rule = λ r. fine-not against_rule f g (sym (rule-pass k.fields.dvb_binary_locator r) ∙ c);
        zeros = rule-says k.fields.dvb_binary_locator f g c;
      }

  pub rule-refuses : Agrees k.fields → Each Held (present_fields k) → (RuleKept k.fields.dvb_binary_locator → ⊥) → check_link t k ≡ bad against_rule 0 0
  unfolding check_link
  rule-refuses a h r =
      go_on _ _ (presence-pass k.fields a) ∙ go_on _ _ (fields-pass k h) ∙ stop _ _ _ _ _ (rule-tells k.fields.dvb_binary_locator r)

  -- 25 (s, n): the rule is kept too, and of the ranges, the URI's, the items' in order, the descriptors', the first past
  -- the text starts at s and has n bytes
  pub record PastText (s n : ℕ) : Type 0 where
    pub presence : Agrees k.fields
    pub fields : Each Held (present_fields k)
    pub rule : RuleKept k.fields.dvb_binary_locator
    pub it : Range
    pub first : First (Within t) (present_ranges k) it
    pub start : it.start ≡ s
    pub length : it.length ≡ n

  pub past-refused : (s n : ℕ) → check_link t k ≡ bad past_text s n → PastText s n
  unfolding check_link check_range
  past-refused s n e =
      let a = only-past against_type past_text s n (λ d. omega arith) _ _ (presence-only k.fields) e in
      let b = only-past too_wide past_text s n (λ d. omega arith) _ _ (fields-only k) a.1 in
      let c = only-past against_rule past_text s n (λ d. omega arith) _ _ (rule-only k.fields.dvb_binary_locator) b.1 in
      let f = first-told (check_range (length t)) (range-passed t) (range-pass t) (present_ranges k) _ (sym (ranges-rows (length t) k) ∙ c.1) in
      let says = (row-says _ past_text _ _ past_text s n f.told).1 in
      record {
        presence = presence-passed k.fields a.0;
        fields = fields-passed k b.0;
        rule = rule-passed k.fields.dvb_binary_locator c.0;
        it = f.it;
        first = f.first;
        start = says.0;
        length = says.1;
      }

  pub past-refuses : (r : Range) → Agrees k.fields → Each Held (present_fields k) → RuleKept k.fields.dvb_binary_locator → First (Within t) (present_ranges k) r
      → check_link t k ≡ bad past_text r.start r.length
  unfolding check_link check_range
  past-refuses r a h w f =
      go_on _ _ (presence-pass k.fields a)
      ∙ go_on _ _ (fields-pass k h)
      ∙ go_on _ _ (rule-pass k.fields.dvb_binary_locator w)
      ∙ ranges-rows (length t) k
      ∙ first-tells (check_range (length t)) (range-passed t) (range-pass t) (present_ranges k) r _ f (row-refuses _ past_text _ _ (λ e. f.bad (range-passed t r e)))

-- ---- the accident that the first row is for: a link of type 1 without locator never passes

pub type1-needs-locator : (t : List ℕ) (k : LinkInfo) → k.fields.link_type ≡ 1 → k.fields.dvb_binary_locator ≡ None → check_link t k ≡ bad against_type 1 0
type1-needs-locator t k a b = type-refuses t k against ∙ ap (λ n. bad against_type n 0) a
  where
    against : Agrees k.fields → ⊥
    against g = let e : false ≡ true = rw (a, b) at g.locator in let z : ◌≡◌ {A = ℕ} 0 1 = cc in omega arith
