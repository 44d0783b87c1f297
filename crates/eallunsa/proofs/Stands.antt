-- Of a link's record that is handed in only the link counts that it stands for.
-- Assumes nothing.
use Prim.Native.Nat.{ℕ}
use mathlib.Core.Path.{◌≡◌, refl, sym, ap, ◌∙◌}
use mathlib.Core.List.{List}
use Rattle.link.specs.Records.{link_of}
use Rattle.link.specs.declared.LinkInfo.{LinkInfo}
use Rattle.link_draft.specs.Checks.{check_link}
use Rattle.rct_links.specs.Links.{numbered_link}
use Rattle.rct_edit.specs.Calls.{appending, replacing}
use Rattle.rct_index.specs.Editing.{appending_indexed, replacing_indexed}
use Rattle.rct_index.specs.declared.RctIndex.{RctIndex}
use Rattle.flat_link.specs.Links.{link_flat, info_of}
use Rattle.flat_link.specs.declared.FlatLink.{FlatLink}
use Rattle.flat_link.proofs.Back.{info-back, flat_link_of, same-link}
use Rattle.flat_answers.specs.Links.{link_answer}
use Rattle.wire.specs.Verdict.{Fine}
use Rattle.link.specs.Answers.{link_got}
use Rattle.flat_answers.proofs.Told.{link-told}

-- ---- two records that pass their checks and stand for the same link, each with its own text, give the same answers and bytes

module _ (xs t u : List ℕ) (f g : FlatLink) (p : check_link t (info_of f) ≡ Fine) (q : check_link u (info_of g) ≡ Fine) (e : flat_link_of t f ≡ flat_link_of u g) where
  pub append-same : appending xs t (info_of f) ≡ appending xs u (info_of g)
  unfolding appending
  append-same = rw (p, q, e) refl

  pub replace-same : (n : ℕ) → replacing xs n t (info_of f) ≡ replacing xs n u (info_of g)
  unfolding replacing
  replace-same n = rw (p, q, e) refl

  pub append-indexed-same : (i : RctIndex) → appending_indexed xs t (info_of f) i ≡ appending_indexed xs u (info_of g) i
  unfolding appending_indexed
  append-indexed-same i = rw (append-same, e) refl

  pub replace-indexed-same : (n : ℕ) (i : RctIndex) → replacing_indexed xs n t (info_of f) i ≡ replacing_indexed xs n u (info_of g) i
  unfolding replacing_indexed
  replace-indexed-same n i = rw (replace-same n, e) refl

-- ---- a link that was read stands for what the library's record stands for, and may be handed in as that one

pub link-stands : (xs : List ℕ) (k : ℕ) → flat_link_of xs (link_answer (numbered_link xs k)).link ≡ link_of xs (link_got (numbered_link xs k))
link-stands xs k = ap (λ a. flat_link_of xs a.link) (link-told (numbered_link xs k)) ∙ same-link xs (link_got (numbered_link xs k))

pub link-handed-on : (xs : List ℕ) (k : ℕ) → info_of (link_answer (numbered_link xs k)).link ≡ link_got (numbered_link xs k)
link-handed-on xs k = ap (λ a. info_of a.link) (link-told (numbered_link xs k)) ∙ info-back (link_got (numbered_link xs k))
