use Prim.Native.Nat.{◌-◌}
use mathlib.Core.Path.{◌≡◌, sym, ap, ◌∙◌}
use mathlib.Core.List.{map}
use native.Mathlib.Omega.{arith}
use Rattle.length_field.specs.Lengths.{block_end}
use Rattle.wire.specs.Runs.{places_to}
use Rattle.length_field.proofs.Blocks.{block_up}
use Rattle.rnt.specs.Reading.{authority_count, authority_place, provider_verdict}
use Rattle.rnt.proofs.Providers.{provider-within}
use Rattle.rnt_walker.proofs.Walks.{passed-at, passed-refused, read-walked, refused-walked, Sought, sought-start, Walking, walk_start, walk-on, walk-stop, walk_fine, walk-number, place-on, place_end, told-on, told-end}
use borrow.Author.Rules.{rules}
use Rattle.rnt_walker.proofs.walk.past_providers.Given as goal

abbrev pub invariant-loop-p : goal.invariant-loop-p
invariant-loop-p l =
    Walking (block_end l.s) (block_up l.s) (provider_verdict l.s l.e) l.e l.at l.p l.i
    × (Sought (places_to (block_end l.s) l.e l.at) l.provider l.i l.provider_at (places_to (block_end l.s) l.e l.p)
    × (Sought (map (authority_count l.s) (places_to (block_end l.s) l.e l.at)) l.provider l.i l.authorities (map (authority_count l.s) (places_to (block_end l.s) l.e l.p))
    × Sought (map (λ q. authority_place l.s q l.authority) (places_to (block_end l.s) l.e l.at)) l.provider l.i l.authority_at (map (λ q. authority_place l.s q l.authority) (places_to (block_end l.s) l.e l.p))))

abbrev pub decreases-loop-p : goal.decreases-loop-p
decreases-loop-p l = l.e - l.p
