use Rattle.pb_wire.proofs.CutLaws.{cut_again, cut_fails_again, is_found, is_fault, is_within}
use Rattle.pb_wire.proofs.reading.fields_at.Goals as goal

pub returns-clause-found : goal.returns-clause-found
returns-clause-found c = is_found c.args.at c.args.bytes.now c.all.result c.all.ensures

pub returns-clause-only : goal.returns-clause-only
returns-clause-only c = λ fs h. rw (cut_again c.args.at c.args.bytes.now fs h) at c.all.ensures

pub returns-clause-fault : goal.returns-clause-fault
returns-clause-fault c = is_fault c.args.at c.args.bytes.now c.all.result c.all.ensures

pub returns-clause-first : goal.returns-clause-first
returns-clause-first c = λ e h. rw (cut_fails_again c.args.at c.args.bytes.now e h) at c.all.ensures

pub returns-clause-within : goal.returns-clause-within
returns-clause-within c = is_within c.args.at c.args.bytes.now c.all.result c.all.ensures
