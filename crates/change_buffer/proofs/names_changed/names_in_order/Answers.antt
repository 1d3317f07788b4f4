use Rattle.change_buffer.proofs.StepLemmas.{names_sorted}
use Rattle.change_buffer.proofs.names_changed.names_in_order.Goals as goal

pub returns : goal.returns
returns c =
    names_sorted c.args.feeds.now c.in_ok-names.names.items c.sort_names.new.names.items c.drop_repeats.new.names.items c.in_ok-names.ensures c.sort_names.ensures.permutation
    c.in_ok-sort_names.ensures.sorted c.drop_repeats.ensures
