use borrow.Author.Rules.{rules}
use Rattle.locator_reader.proofs.locator_at.Goals as goal

pub returns : goal.returns
returns c =
    let identifier-at = c.identifier_at in
    let be16-at2 = c.be16_at-2 in
    let be16-at = c.be16_at in
    let service-at = c.service_at in
    let low2 = c.low-2 in
    let low = c.low in
    let reliable = c.reliable in
    rw (c.with_reserved.ensures, c.windows_at.ensures, identifier-at.ensures, be16-at2.ensures, be16-at.ensures, service-at.ensures, low2.ensures, low.ensures, reliable.ensures)
