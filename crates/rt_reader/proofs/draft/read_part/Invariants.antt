use Rattle.std.proofs.Common.{◌≡◌, drop}
use Rattle.rt_reader.specs.Walk.{walk_wrong, walk_value}
use Rattle.rt_reader.proofs.draft.read_part.Given as goal

abbrev pub invariant-loop-field : goal.invariant-loop-field
invariant-loop-field g l = record {
  wrong : walk_wrong g.D.Draft.table g.D.Draft.seen (g.D.Draft.add l.body) l.body l.draft (drop l.field-index l.field-items) ≡ walk_wrong g.D.Draft.table g.D.Draft.seen (g.D.Draft.add l.body) l.body g.D.Draft.blank l.field-items;
  value : walk_value (g.D.Draft.add l.body) l.draft (drop l.field-index l.field-items) ≡ walk_value (g.D.Draft.add l.body) g.D.Draft.blank l.field-items;
}
