-- What a walk over the head of a provider answers.
-- Assumes nothing.
use Rattle.std.specs.Prelude.{ℕ, min, List, length, Err, Ok, Result}
use Rattle.rnt_heads.specs.declared.Headed.{Headed}
use Rattle.wire.specs.Verdict.{Verdict}
use Rattle.wire.specs.declared.verdict.Refusal.{Refusal}

abbrev pub found_head : ℕ → ℕ → Result Headed Refusal
found_head p q = Ok (record { first = p; end = q })

-- nothing is read past the slice, whatever end is told
abbrev pub end_in : List ℕ → ℕ → ℕ
end_in xs e = min e (length xs)

unfoldable pub headed : Verdict → ℕ → ℕ → Result Headed Refusal
headed (Ok _) p q = found_head p q
headed (Err r) p q = Err r
