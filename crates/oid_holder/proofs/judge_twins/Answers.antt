-- `judge_twins` is right by the law of the loop that judges a rule; each turn chains one definition more.
-- Assumes nothing.
use Rattle.std.proofs.Common.{refl, sym, arith}
use Rattle.chain.proofs.Chain.{chained_none}
use Rattle.chain.proofs.Keyed.{key_few}
use Rattle.rule.proofs.Judged.{judging_start, judging_next, judging_broken, judging_kept}
use Rattle.module_table.specs.Definition.{definitions_in, entry}
use Rattle.module_table.specs.Module.{oid_in}
use Rattle.module_table.proofs.Table.{table_counted}
use Rattle.oid_holder.specs.Holder.{held_twice, key_at}
use Rattle.oid_holder.proofs.judge_twins.Goals as goal

pub loop-k-init : goal.loop-k-init
unfolding held_twice
loop-k-init c =
    (judging_start (held_twice (definitions_in c.args.definitions.now) c.args.numbers.now) refl (sym c.count-k-end.ensures), chained_none (key_at (definitions_in c.args.definitions.now) c.args.numbers.now))

pub is_held_twice-requires : goal.is_held_twice-requires
is_held_twice-requires c = record {
  index = omega (arith, c.loop-k-test.true, c.count-k-end.ensures, table_counted c.args.definitions.now, c.requires);
  chains = c.loop-k.invariant.1;
  key = c.oid_key-key.ensures;
}

pub returns-then-is_held_twice : goal.returns-then-is_held_twice
unfolding held_twice
returns-then-is_held_twice c =
    judging_broken c.loop-k.invariant.0 c.loop-k-test.true c.is_held_twice.ensures c.if-is_held_twice.true _ c.twin_at.ensures

pub insert-requires : goal.insert-requires
insert-requires c =
    let chained = c.loop-k.invariant.1 in
    record {
      heads = chained.heads_long;
      links = chained.links_long;
      entry = omega (arith, c.loop-k-test.true, c.count-k-end.ensures, table_counted c.args.definitions.now, c.requires);
      key = omega (arith, c.oid_key-key.ensures, key_few (oid_in c.args.numbers.now (entry (definitions_in c.args.definitions.now) c.loop-k.k)));
    }

pub loop-k-preserved : goal.loop-k-preserved
loop-k-preserved c = (
  judging_next c.loop-k.invariant.0 c.loop-k-test.true c.is_held_twice.ensures c.if-is_held_twice.false,
  c.insert.ensures (key_at (definitions_in c.args.definitions.now) c.args.numbers.now) (sym c.oid_key-key.ensures) c.loop-k.invariant.1,
)

pub returns : goal.returns
unfolding held_twice
returns c = judging_kept c.loop-k.invariant.0 c.loop-k-test.false
