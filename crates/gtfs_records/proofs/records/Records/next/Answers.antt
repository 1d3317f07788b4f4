use Rattle.std.proofs.Common.{◌∙◌, refl}
use Rattle.csv.specs.Records.{fields_of}
use Rattle.gtfs_records.specs.Records.{IsBetween}
use Rattle.gtfs_records.proofs.RecordFacts.{takes, takes_none}
use Rattle.gtfs_records.proofs.records.Records.next.Goals as goal

pub invariant_of-self : goal.invariant_of-self
invariant_of-self c =
    let between : IsBetween c.self.inside.reader = c.self.invariant c.if-self.false in
    let read = rw c.in-Ok-true.field-0-test at (c.in-Ok-true.ensures.reads between.plain between.ready) in
    let on = c.in-Ok-true.ensures.reads_on c.in-Ok-true.field-0-test in
    let (z, known, resting, taken) = takes c.self.inside.reader c.read_byte_record.new.self (fields_of c.read_byte_record.new.row) between read in
    λ _. record {
      plain = on.1 ∙ between.plain;
      ready = (on.4 between.ready).0;
      config = on.0 ∙ between.config;
      flexible = on.2 ∙ between.flexible;
      state = resting;
      bytes = z;
      known = known;
    }

pub returns-in-Ok-true : goal.returns-in-Ok-true
returns-in-Ok-true c =
    let between : IsBetween c.self.inside.reader = c.self.invariant c.if-self.false in
    let read = rw c.in-Ok-true.field-0-test at (c.in-Ok-true.ensures.reads between.plain between.ready) in
    let (z, known, resting, taken) = takes c.self.inside.reader c.read_byte_record.new.self (fields_of c.read_byte_record.new.row) between read in
    rw (← c.self.view_is, c.if-self.false) taken

pub returns-in-Ok-false : goal.returns-in-Ok-false
returns-in-Ok-false c =
    let between : IsBetween c.self.inside.reader = c.self.invariant c.if-self.false in
    let read = rw c.in-Ok-false.field-0-test at (c.in-Ok-false.ensures.reads between.plain between.ready) in
    (rw (← c.self.view_is, c.if-self.false) (takes_none c.self.inside.reader c.read_byte_record.new.self (fields_of c.read_byte_record.new.row) between read), refl)
