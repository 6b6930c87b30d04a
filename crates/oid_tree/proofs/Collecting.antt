-- Collecting the OIDs of a module, step by step: from the rules that are kept to the words and the numbers that are left.
-- Assumes nothing.
use mathlib.Core.Path.{◌≡◌, refl, sym, ap, ◌∙◌}
use mathlib.Core.Bool.{not, ◌&&◌}
use mathlib.Core.List.{List, [], ◌∷◌}
use Prim.Native.Nat.{ℕ, zero, suc, ◌≤◌, ◌<◌}
use native.Mathlib.Omega.{arith}
use lib.ListN.{length}
use Rattle.index.specs.Walk.{after}
use Rattle.rule.specs.Rule.{judge_one, judge, Judgement}
use Rattle.rule.specs.declared.Finding.{Finding}
use Rattle.rule.proofs.Judged.{judged_kept, judge_alone, kept_next, broken_first}
use Rattle.token.specs.Table.{overlaid}
use Rattle.module_table.specs.Definition.{definitions_in, entry}
use Rattle.module_table.specs.Module.{Module, count_of}
use Rattle.module_table.specs.declared.Definition.{Definition}
use Rattle.module_table.specs.declared.Lead.{Lead}
use Rattle.module_table.specs.declared.Lead.TheVariants.{Iso, Import, Nothing}
use Rattle.module_table.proofs.Filled.{changed_entry}
use Rattle.oid_head.specs.Oid.{named_in, has_value, is_built_in, next_head, name_of, reaches, resolved_oid, numbers_before, first_number}
use Rattle.oid_tree.specs.Stage.{with_oid, with_oids}
use Rattle.oid_head.specs.Unreached.{plain_over, unreached, AllReach}
use Rattle.oid_tree.specs.Refusal.{most_numbers, length_rules, collecting_rules, long_by_count, room_by_count}
use Rattle.oid_tree.specs.Writing.{Measured, Placed}
use Rattle.oid_tree.specs.Collected.{OidsHeld, Collected}
use Rattle.oid_head.proofs.Meaning.{value_inside}
use Rattle.oid_head.proofs.Unreached.{all_reach}
use Rattle.oid_tree.proofs.Alike.{Alike, value_alike, reaches_alike, oid_alike, before_alike}
use Rattle.oid_tree.proofs.Measuring.{stage_alike}
use Rattle.oid_tree.proofs.Counted.{numbers_fit, lengths_same}
use Rattle.std.specs.Prelude.{Ok, Err}

broken_kept : (f : Finding) → ◌≡◌ {A = Judgement} (Err f) (Ok tt) → ⊥
broken_kept f e = let z : ◌≡◌ {A = ℕ} 0 1 = cc in omega arith

module _ (classes values words : List ℕ) where
  abbrev m : Module
  m = named_in classes values words

  -- refusal 12 needs no classes
  abbrev bare : Module
  bare = named_in [] values words

  next_same : (l : Lead) → next_head bare l ≡ next_head m l
  next_same Iso = refl
  next_same (Import k) = refl
  next_same (Lead.Definition d) = refl
  next_same Nothing = refl

  walk_same : (n : ℕ) (l : Lead) → after (next_head bare) n l ≡ after (next_head m) n l
  unfolding after
  walk_same zero l = refl
  walk_same (suc n) l = next_same (after (next_head bare) n l) ∙ ap (next_head m) (walk_same n l)

  reaches_same : (k : ℕ) → reaches bare k ≡ reaches m k
  unfolding reaches
  reaches_same k = ap is_built_in (walk_same (count_of m) (name_of k))

  rule_same : unreached bare ≡ unreached m
  unfolding unreached
  rule_same = λ i. plain_over 12 (definitions_in words) (λ k. has_value (entry (definitions_in words) k) && not (reaches_same k i))

  pub reached_said : {r : Judgement} → r ≡ judge_one (unreached bare) → r ≡ judge_one (unreached m)
  reached_said is = is ∙ ap judge_one rule_same

  pub reached_kept : judge_one (unreached m) ≡ Ok tt → AllReach m
  reached_kept e = all_reach m (judged_kept (unreached m ∷ []) (sym (judge_alone (unreached m)) ∙ e)).0

  -- the numbers have room where refusal 14 is kept
  pub room_kept : judge (length_rules m) ≡ Ok tt → first_number m (count_of m) ≤ most_numbers
  room_kept e = numbers_fit m (judged_kept (length_rules m) e).1.0 (count_of m) (omega arith)

  -- the definitions say where their numbers are
  module _ (next : List ℕ) (w : Measured m words next) where
    abbrev o : Module
    o = named_in classes values next

    alike : Alike (definitions_in words) (definitions_in next)
    alike = rw w.placed (stage_alike m (definitions_in words))

    measured_oid : (k : ℕ) → resolved_oid o k ≡ resolved_oid m k
    measured_oid k = oid_alike classes values (definitions_in words) (definitions_in next) [] [] alike k

    measured_before : (k : ℕ) → numbers_before o k ≡ numbers_before m k
    measured_before k = before_alike classes values (definitions_in words) (definitions_in next) [] [] alike k

    pub measured_reach : AllReach m → AllReach o
    measured_reach reach k h v =
        reaches_alike classes values (definitions_in words) (definitions_in next) [] [] alike k
        ∙ reach k (omega (arith, alike.counted)) (sym (value_alike classes values (definitions_in words) (definitions_in next) [] [] alike k) ∙ v)

    measured_entry : (k : ℕ) → k < count_of m → entry (definitions_in next) k ≡ with_oid m k (entry (definitions_in words) k)
    measured_entry k h = ap (λ (ds : List Definition). entry ds k) w.placed ∙ changed_entry (with_oid m) (definitions_in words) k h

    pub measured_placed : Placed o
    unfolding with_oid
    measured_placed = record {
      counts = λ k h.
          ap (λ (d : Definition). d.count) (measured_entry k (omega (arith, alike.counted)))
          ∙ sym (ap length (measured_oid k));
      starts = λ k v.
          let value = sym (value_alike classes values (definitions_in words) (definitions_in next) [] [] alike k) ∙ v in
          ap (λ (d : Definition). d.start.0) (measured_entry k (omega (arith, value_inside o k v, alike.counted)))
          ∙ rw value (sym (ap length (measured_before k)));
    }

    pub measured_room : judge (length_rules m) ≡ Ok tt → first_number o (count_of o) ≤ most_numbers
    measured_room e =
        omega (arith, ap length (measured_before (count_of o)), ap (first_number m) alike.counted, room_kept e)

    -- what is said of the lengths is refusals 13 and 14
    pub lengths_said : {r : Judgement} → r ≡ judge (long_by_count (definitions_in next) ∷ room_by_count (definitions_in next) ∷ []) → r ≡ judge (length_rules m)
    lengths_said is =
        is ∙ ap (λ (ds : List Definition). judge (long_by_count ds ∷ room_by_count ds ∷ [])) w.placed ∙ lengths_same m

    -- and what is left is the module with its OIDs
    pub all_held : (before after : List ℕ) → after ≡ overlaid (numbers_before o (count_of o)) before → OidsHeld m next before after
    unfolding with_oids
    all_held before after is = record {
      definitions = w.placed;
      numbers =
          is
          ∙ ap (λ (l : List ℕ). overlaid l before) (measured_before (count_of o) ∙ ap (numbers_before m) alike.counted);
    }

  -- ---- the answers

  pub unreached_left : (r : Judgement) → r ≡ judge_one (unreached m) → (f : Finding) → r ≡ Err f → (before : List ℕ) → Collected m r words words before before
  unreached_left r is f broken before = record {
    judged = broken_first (unreached m) (length_rules m) r is f broken;
    words_long = refl;
    numbers_long = refl;
    held = λ kept. absurd (broken_kept f (sym broken ∙ kept));
  }

  module _ (reached : Judgement) (is : reached ≡ judge_one (unreached m)) (kept : reached ≡ Ok tt) (next : List ℕ) (w : Measured m words next) (r : Judgement) (lengths : r ≡ judge (length_rules m)) where
    said : r ≡ judge (collecting_rules m)
    said = lengths ∙ sym (kept_next (unreached m) (length_rules m) reached is kept)

    pub long_left : (f : Finding) → r ≡ Err f → (before : List ℕ) → Collected m r words next before before
    long_left f broken before = record {
      judged = said;
      words_long = w.as_long;
      numbers_long = refl;
      held = λ e. absurd (broken_kept f (sym broken ∙ e));
    }

    pub all_left : (before after : List ℕ) → length after ≡ length before → after ≡ overlaid (numbers_before (named_in classes values next) (count_of (named_in classes values next))) before
        → Collected m r words next before after
    all_left before after long written = record {
      judged = said;
      words_long = w.as_long;
      numbers_long = long;
      held = λ e. all_held next w before after written;
    }
