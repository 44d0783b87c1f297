-- The answers of a provider and of an authority by their places in a section.
-- Assumes nothing.
use Rattle.std.specs.Prelude.{ℕ, List, Err, Ok, Result}
use Rattle.rnt.specs.Reading.{named_end, authority_verdict, provider_head}
use Rattle.rnt.specs.Records.{provider_info, authority_info}
use Rattle.rnt.specs.declared.ResolutionProvider.{ResolutionProvider}
use Rattle.rnt.specs.declared.CridAuthority.{CridAuthority}
use Rattle.rnt_heads.specs.Heads.{end_in}
use Rattle.rnt_entries.specs.declared.AuthorityFound.{AuthorityFound}
use Rattle.wire.specs.Verdict.{Verdict}
use Rattle.wire.specs.declared.verdict.Refusal.{Refusal}

-- an authority, and the place behind it
abbrev pub found_authority : CridAuthority → ℕ → Result AuthorityFound Refusal
found_authority k q = Ok (record { authority = k; next = q })

unfoldable pub provider_answer : Verdict → ResolutionProvider → Result ResolutionProvider Refusal
provider_answer (Ok _) k = Ok k
provider_answer (Err r) k = Err r

unfoldable pub authority_answer : Verdict → CridAuthority → ℕ → Result AuthorityFound Refusal
authority_answer (Ok _) k q = found_authority k q
authority_answer (Err r) k q = Err r

-- the provider at p of a payload that ends at e, and the authority at p of a provider that ends at e
unfoldable pub provider_from : List ℕ → ℕ → ℕ → Result ResolutionProvider Refusal
provider_from xs e p = provider_answer (provider_head xs (end_in xs e) p) (provider_info xs p)

unfoldable pub authority_from : List ℕ → ℕ → ℕ → Result AuthorityFound Refusal
authority_from xs e p = authority_answer (authority_verdict xs (end_in xs e) p) (authority_info xs p) (named_end xs p)
