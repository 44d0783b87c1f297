use native.Mathlib.Omega.{arith}
use Rattle.byte_stores.proofs.Writing.{then}
use Rattle.locator.specs.Syntax.{locator_bytes, locator_length}
use Rattle.locator.specs.Writing.{narrowed_service, narrowed_windows}
use Rattle.locator.proofs.Sizes.{service-length, identifier-length, windows-length}
use borrow.Author.Rules.{rules}
use Rattle.locator_writer.proofs.put_locator.Goals as goal

pub put16-at-requires : goal.put16-at-requires
unfolding locator_length
put16-at-requires c = omega arith

pub put_service-start-requires : goal.put_service-start-requires
unfolding locator_length
put_service-start-requires c =
    let args = c.args in
    omega (arith, service-length (narrowed_service args.locator.service))

pub put16-duration-requires : goal.put16-duration-requires
unfolding locator_length
put16-duration-requires c =
    let args = c.args in
    omega (arith, service-length (narrowed_service args.locator.service))

pub put16-tail-requires : goal.put16-tail-requires
unfolding locator_length
put16-tail-requires c =
    let args = c.args in
    omega (arith, service-length (narrowed_service args.locator.service))

pub put_identifier-end-requires : goal.put_identifier-end-requires
unfolding locator_length
put_identifier-end-requires c =
    let args = c.args in
    omega (arith, service-length (narrowed_service args.locator.service), identifier-length args.locator.identifier)

pub put_windows-requires : goal.put_windows-requires
unfolding locator_length
put_windows-requires c =
    let args = c.args in
    omega (arith, service-length (narrowed_service args.locator.service), identifier-length args.locator.identifier, windows-length (narrowed_windows args.locator.windows))

pub returns : goal.returns
unfolding locator_bytes
returns c =
    let put-windows = c.put_windows in
    let put-identifier = c.put_identifier-end in
    let put163 = c.put16-tail in
    let put162 = c.put16-duration in
    let put-service = c.put_service-start in
    let put16 = c.put16-at in
    let head = c.head in
    then (then (then (then (then (rw head.ensures at put16.ensures) put-service.ensures) put162.ensures) put163.ensures) put-identifier.ensures) put-windows.ensures
