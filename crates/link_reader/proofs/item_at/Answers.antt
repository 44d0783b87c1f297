use Prim.Native.Nat.{◌+◌}
use Rattle.link.specs.Syntax.{language_length}
use mathlib.Core.Path.{refl}
use native.Mathlib.Omega.{arith}
use Rattle.link_reader.proofs.item_at.Goals as goal

pub bounds-s-p : goal.bounds-s-p
bounds-s-p c = omega arith

pub overflow_add-language_code : goal.overflow_add-language_code
overflow_add-language_code c = omega arith

pub bounds-s-p-2 : goal.bounds-s-p-2
bounds-s-p-2 c = omega arith

pub overflow_add-language_code-2 : goal.overflow_add-language_code-2
overflow_add-language_code-2 c = omega arith

pub bounds-s-p-3 : goal.bounds-s-p-3
bounds-s-p-3 c = omega arith

pub overflow_add-promotional_text : goal.overflow_add-promotional_text
overflow_add-promotional_text c = omega arith

pub overflow_add-promotional_text-2 : goal.overflow_add-promotional_text-2
overflow_add-promotional_text-2 c = omega arith

pub overflow_cast-promotional_text-2 : goal.overflow_cast-promotional_text-2
overflow_cast-promotional_text-2 c = omega arith

pub overflow_add-promotional_text-3 : goal.overflow_add-promotional_text-3
overflow_add-promotional_text-3 c = omega arith

pub bounds-s-p-4 : goal.bounds-s-p-4
bounds-s-p-4 c = omega arith

pub overflow_cast-promotional_text-3 : goal.overflow_cast-promotional_text-3
overflow_cast-promotional_text-3 c =
    let p = c.args.p in
    omega (arith, c.type_inv.s (p + language_length))

pub returns : goal.returns
returns c = refl
