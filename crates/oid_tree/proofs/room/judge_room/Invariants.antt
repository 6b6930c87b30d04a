-- `judge_room` judges one rule at each definition, and knows how many numbers it has passed.
-- Assumes nothing.
use Rattle.std.proofs.Common.{◌≡◌, ◌≤◌}
use Rattle.rule.proofs.Judged.{Judging}
use Rattle.module_table.specs.Definition.{definitions_in}
use Rattle.oid_tree.specs.Refusal.{most_numbers, counts_before, room_by_count}
use Rattle.oid_tree.proofs.room.judge_room.Given as goal

abbrev pub invariant-loop-k : goal.invariant-loop-k
invariant-loop-k l =
    Judging (room_by_count (definitions_in l.definitions)) l.k-end l.k
    × (l.total ≡ counts_before (definitions_in l.definitions) l.k) × (l.total ≤ most_numbers)
