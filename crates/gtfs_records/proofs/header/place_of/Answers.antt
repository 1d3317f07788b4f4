use Rattle.std.proofs.Common.{◌≡◌, ◌∙◌, true, false, sym, rules}
use Rattle.std.specs.Str.{bytes_eq}
use Rattle.csv.specs.Records.{fields_of}
use Rattle.gtfs_records.specs.Fields.{trim_spaces}
use Rattle.gtfs_records.proofs.HeaderFacts.{place_none, place_step}
use Rattle.gtfs_records.proofs.header.place_of.Goals as goal

pub returns-then-eq : goal.returns-then-eq
returns-then-eq c =
    let e = place_step (fields_of c.args.header.now) c.args.name.now c.in-Some.field.now c.loop-at.at (sym c.in-Some.ensures.value) in
    let test : bytes_eq (trim_spaces c.in-Some.field.now) c.args.name.now ≡ true = search rules in
    sym (rw test at e) ∙ c.loop-at.invariant

pub loop-at-preserved : goal.loop-at-preserved
loop-at-preserved c =
    let e = place_step (fields_of c.args.header.now) c.args.name.now c.in-Some.field.now c.loop-at.at (sym c.in-Some.ensures.value) in
    let test : bytes_eq (trim_spaces c.in-Some.field.now) c.args.name.now ≡ false = search rules in
    sym (rw test at e) ∙ c.loop-at.invariant

pub returns-in-None : goal.returns-in-None
returns-in-None c = sym (place_none (fields_of c.args.header.now) c.args.name.now c.loop-at.at (sym c.in-None.ensures.value)) ∙ c.loop-at.invariant
