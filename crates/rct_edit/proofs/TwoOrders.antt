-- Demand 3: two replacements of different links, each accepted by itself, where the section with both in is within the limit and the room. In either order both are accepted, and the buffer ends with that section in front, sealed.
-- Assumes nothing.
use mathlib.Core.Path.{◌≡◌, sym, ◌∙◌}
use mathlib.Core.Logic.{◌≢◌}
use Prim.Native.Nat.{ℕ, ◌≤◌}
use mathlib.Core.List.{List}
use lib.ListN.{length, take}
use Rattle.wire.specs.Lists.{Bytes}
use Rattle.link.specs.Syntax.{Link, LinkFits}
use Rattle.frame.specs.Syntax.{limit}
use Rattle.rct.specs.Syntax.{Section, section_length, full_length, sealed}
use Rattle.rct.specs.Reading.{section_at}
use Rattle.rct.proofs.Checked.{Holds, checked-holds, holds-bytes}
use Rattle.rct_edit.specs.Edit.{with_link, written, replace_verdict, Outcome, replaced}
use Rattle.rct_edit.proofs.Records.{with_two, length-with}
use Rattle.rct_edit.proofs.Calls.{Room, CanReplace, replace-can, Stepped, stepped, replaced-verdict, replace-checked}
use Rattle.wire.specs.Verdict.{Fine, Verdict}

-- accepted, with the total of s, and s is in front of the buffer, sealed
pub record Ends (s : Section) (o : Outcome) : Type 0 where
  pub accepted : o.verdict ≡ Fine
  pub total : o.total ≡ full_length s
  pub bytes : take (full_length s) o.buffer ≡ sealed s

-- one replacement after another, both of which can be done to s
second : (s : Section) (xs : List ℕ) → Holds s xs
    → (k j : ℕ) (v w : Verdict) (l m : Link) → (v ≡ Fine → LinkFits l) → (w ≡ Fine → LinkFits m)
    → CanReplace s (length xs) k v l → CanReplace s (length xs) j w m → Room (length xs) (with_link (with_link s k l) j m)
    → Ends (with_link (with_link s k l) j m) (replaced (replaced xs k v l).buffer j w m)
second s xs h k j v w l m gv gw ck cj r =
    record { accepted = two.verdict; total = two.total; bytes = holds-bytes _ _ two.holds }
  where
    ys : List ℕ
    ys = (replaced xs k v l).buffer

    one : Stepped (with_link s k l) (written xs (with_link s k l)) xs (replaced xs k v l)
    one = stepped v l gv s xs h k ck

    can : CanReplace (with_link s k l) (length ys) j w m
    can = rw one.size (record { below = rw (length-with s k l) cj.below; link = cj.link; room_for = r })

    two : Stepped (with_link (with_link s k l) j m) (written ys (with_link (with_link s k l) j m)) ys (replaced ys j w m)
    two = stepped w m gw (with_link s k l) ys one.holds j can

pub two-orders : (xs : List ℕ) (k j : ℕ) (v w : Verdict) (l m : Link) → Bytes xs → k ≢ j
    → (v ≡ Fine → LinkFits l) → (w ≡ Fine → LinkFits m)
    → (replaced xs k v l).verdict ≡ Fine
    → (replaced xs j w m).verdict ≡ Fine
    → section_length (with_link (with_link (section_at xs) k l) j m) ≤ limit
    → full_length (with_link (with_link (section_at xs) k l) j m) ≤ length xs
    → Ends (with_link (with_link (section_at xs) k l) j m) (replaced (replaced xs k v l).buffer j w m)
    × Ends (with_link (with_link (section_at xs) k l) j m) (replaced (replaced xs j w m).buffer k v l)
two-orders xs k j v w l m b n gv gw ak aj fit enough = (second s xs h k j v w l m gv gw ck cj room, rw swap (second s xs h j k w v m l gw gv cj ck (rw (← swap) room)))
  where
    s : Section
    s = section_at xs

    fk : replace_verdict xs k v l ≡ Fine
    fk = sym (replaced-verdict xs k v l) ∙ ak

    h : Holds s xs
    h = checked-holds xs b (replace-checked xs k v l fk)

    ck : CanReplace s (length xs) k v l
    ck = replace-can v l gv s xs h k fk

    cj : CanReplace s (length xs) j w m
    cj = replace-can w m gw s xs h j (sym (replaced-verdict xs j w m) ∙ aj)

    swap : with_link (with_link s k l) j m ≡ with_link (with_link s j m) k l
    swap = with_two s k j l m n

    room : Room (length xs) (with_link (with_link s k l) j m)
    room = record { fit = fit; enough = enough }
