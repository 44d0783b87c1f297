-- Which numbers of an edit bringing up takes, in numbers, and what it leaves of others: the widest that it takes, and each of them
-- one wider.
-- Assumes nothing.
use Prim.Native.Nat.{ℕ}
use mathlib.Core.Path.{◌≡◌, refl}
use mathlib.Core.Bool.{true, false}
use Rattle.wire.specs.declared.verdict.Refusal.{Refusal}
use Rattle.rct_index.specs.Editing.{told_anew}
use Rattle.rct_index.specs.declared.LinkMarks.{LinkMarks}
use Rattle.rct_index.specs.declared.RctIndex.{RctIndex}
use Rattle.rct_index_updater.specs.Bringing.{are_numbers, anew_by, last_of}
use Rattle.edit_answers.specs.Answers.{spliced_at}
use Rattle.std.specs.Prelude.{Err}

pub widest-taken : are_numbers 254 255 65535 65536 65536 ≡ true
widest-taken = refl

pub number-wider : are_numbers 255 255 65535 65536 65536 ≡ false
number-wider = refl

pub count-wider : are_numbers 254 256 65535 65536 65536 ≡ false
count-wider = refl

pub place-wider : are_numbers 254 255 65536 65536 65536 ≡ false
place-wider = refl

pub before-wider : are_numbers 254 255 65535 65537 65536 ≡ false
before-wider = refl

pub total-wider : are_numbers 254 255 65535 65536 65537 ≡ false
total-wider = refl

module _ (i : RctIndex) (k : ℕ) (m : LinkMarks) where
  module _ (total before count at : ℕ) where
    pub taken : are_numbers k count at before total ≡ true → anew_by i k (spliced_at total before count at) m ≡ told_anew i k count at before total m
    unfolding anew_by
    taken e = rw e refl

    pub not_taken : are_numbers k count at before total ≡ false → anew_by i k (spliced_at total before count at) m ≡ i
    unfolding anew_by
    not_taken e = rw e refl

  pub refused-stays : (r : Refusal) → anew_by i k (Err r) m ≡ i
  unfolding anew_by
  refused-stays r = refl

pub last_done : (total before count at : ℕ) → last_of (spliced_at total before count at) ≡ count
unfolding last_of
last_done total before count at = refl

pub last-refused : (r : Refusal) → last_of (Err r) ≡ 0
unfolding last_of
last-refused r = refl
