-- Links and items as numbers.
-- Assumes nothing.
use Rattle.link.specs.Records.{no_item, no_fields, no_link}
use Rattle.link.specs.declared.LinkInfo.{LinkInfo}
use Rattle.flat_link.specs.Links.{fields_flat, link_flat}
use Rattle.flat_refusal.specs.Refusals.{no_refusal}
use Rattle.flat_answers.specs.declared.links.LinkAnswer.{LinkAnswer}
use Rattle.flat_answers.specs.declared.links.ItemAnswer.{ItemAnswer}
use Rattle.flat_answers.specs.declared.links.StepAnswer.{StepAnswer}
use Rattle.flat_answers.specs.declared.links.EntryAnswer.{EntryAnswer}
use Rattle.link.specs.declared.LinkItem.{LinkItem}
use Rattle.link.specs.declared.reading.ItemStep.{ItemStep}
use Rattle.rct_entries.specs.declared.EntryRead.{EntryRead}
use Rattle.std.specs.Prelude.{Err, Ok, Result}
use Rattle.wire.specs.declared.verdict.Refusal.{Refusal}

unfoldable pub link_answer : Result LinkInfo Refusal → LinkAnswer
link_answer (Ok k) = record { refusal = no_refusal; link = link_flat k }
link_answer (Err r) = record { refusal = r; link = link_flat no_link }

unfoldable pub item_answer : Result LinkItem Refusal → ItemAnswer
item_answer (Ok i) = record { refusal = no_refusal; item = i }
item_answer (Err r) = record { refusal = r; item = no_item }

unfoldable pub step_answer : Result ItemStep Refusal → StepAnswer
step_answer (Ok got) = record { refusal = no_refusal; item = got.item; next = got.next }
step_answer (Err r) = record { refusal = r; item = no_item; next = 0 }

unfoldable pub entry_answer : Result EntryRead Refusal → EntryAnswer
entry_answer (Ok got) = record { refusal = no_refusal; fields = fields_flat got.fields; items_at = got.items_at; next = got.next }
entry_answer (Err r) = record { refusal = r; fields = fields_flat no_fields; items_at = 0; next = 0 }
