-- What the stages find of a derived text is the text's own: the slices hold its module, stage by stage.
-- Assumes nothing.
use mathlib.Core.Path.{◌≡◌, refl, sym, ap, subst, ◌∙◌}
use mathlib.Core.Bool.{true, false}
use mathlib.Core.List.{List, []}
use Prim.Native.Nat.{ℕ, ◌≤◌, ◌<◌}
use native.Mathlib.Decide.{dec_lt}
use native.Mathlib.Omega.{arith}
use borrow.Author.Tests.{le-leb, eqb-true, leb-true}
use lib.Dec.{eqb, leb}
use lib.ListN.{length, take, get_or-eq_default}
use lib.Seq.{take_at}
use Rattle.index.proofs.Search.{true_false, answers}
use Rattle.terminal.specs.Terminal.{lower, current}
use Rattle.rule.specs.Rule.{judge_one, judge, Judgement}
use Rattle.rule.specs.declared.Finding.{Finding}
use Rattle.token.specs.Token.{Tok, Meaning, meanings, class_of_token}
use Rattle.token.specs.Cut.{cut, meanings_in}
use Rattle.token.specs.Table.{overlaid}
use Rattle.grammar.specs.Grammar.{smi_module}
use Rattle.grammar.specs.Derivation.{DerivesTokens}
use Rattle.definition.specs.Landmark.{class_at, is_lower}
use Rattle.definition.specs.Members.{is_name}
use Rattle.module_table.specs.declared.Definition.{Definition}
use Rattle.module_table.specs.Definition.{definitions_in}
use Rattle.module_table.specs.Module.{Module, count_of}
use Rattle.scope.specs.Token.{classes_of, spelled, TokensHeld}
use Rattle.scope.proofs.Tokens.{classes_are, placed_name}
use Rattle.outline.specs.Outline.{outline}
use Rattle.naming.specs.Values.{values_of, named}
use Rattle.module_tree.proofs.OfText.{text_numbered}
use Rattle.oid_head.specs.Oid.{named_in, first_number}
use Rattle.oid_tree.specs.Stage.{with_oids}
use Rattle.oid_head.specs.Unreached.{unreached}
use Rattle.oid_tree.specs.Refusal.{most_numbers, length_rules, collecting_rules, counts_before}
use Rattle.oid_tree.proofs.Collecting.{room_kept}
use Rattle.oid_tree.specs.Collected.{Collected}
use Rattle.oid_holder.specs.Holder.{held_twice}
use Rattle.type_class.specs.Stage.{definitions_classed}
use Rattle.enumeration.specs.Item.{spelling_in}
use Rattle.syntax_check.specs.Refusal.{rules_over}
use Rattle.object_tree.specs.Tree.{parents_added}
use Rattle.access_check.specs.Notification.{TwoNumbers}
use Rattle.reader.specs.Reading.{numbered, classed, module_of, object_rules, starts_of, judged, records_of}
use Rattle.reader.specs.Buffers.{Examined, counted, examined_to, refusal_by, Laid}
use Rattle.naming.specs.Told.{Names}
use Rattle.reader.specs.Stage.{Classed, Related}
use Rattle.reader.proofs.Counting.{numbers_counted}
use Rattle.reader.proofs.Row.{first_kept}
use Rattle.reader.proofs.Spelled.{rules_judged}
use Rattle.reader.proofs.TwoNumbers.{notifications_two}
use Rattle.std.specs.Prelude.{Ok, Err}

-- ---- how names are spelled

-- a *lower* is a name
lower_named : (class : ℕ) → is_lower class ≡ true → leb lower class ≡ true
lower_named class low =
    answers (eqb class lower)
    (λ e. le-leb lower class (omega (arith, eqb-true class lower e)))
    (λ e. le-leb lower class (omega (arith, leb-true current class (word e))))
  where
    word : eqb class lower ≡ false → leb current class ≡ true
    word e = answers (leb current class) (λ f. f) (λ f. absurd (true_false low (rw (e, f))))

module _ (text classes starts ends : List ℕ) (t : TokensHeld text classes starts ends) where
  -- a token that is a *lower* is one of the text's
  lower_inside : (i : ℕ) → is_name classes i ≡ true → i < length classes
  lower_inside i low = go (dec_lt i (length classes))
    where
      go : Dec (i < length classes) → i < length classes
      go (yes h) = h
      go (no h) =
          let none : class_at classes i ≡ 0 = get_or-eq_default {A = ℕ} classes 0 (omega arith) in
          absurd (true_false low (rw none))

  pub spelled_alike : (i : ℕ) → is_name classes i ≡ true → spelling_in text starts ends i ≡ spelled (meanings_in text) i
  spelled_alike i low = sym (placed_name text classes starts ends t i (lower_inside i low) (lower_named (class_at classes i) low))

  -- ---- the stages

  abbrev ms : List Meaning
  ms = meanings_in text

  module _ (values w0 : List ℕ) (vs : values ≡ values_of ms) (ds : definitions_in w0 ≡ outline (classes_of ms)) where
    named_held : named_in classes values w0 ≡ named ms
    named_held = λ i. record { classes = classes_are text classes starts ends t i; values = vs i; definitions = ds i; numbers = [] }

    module _ (r : Judgement) (w1 n0 n1 : List ℕ) (c : Collected (named_in classes values w0) r w0 w1 n0 n1) where
      pub oids_judged : r ≡ judge (collecting_rules (named ms))
      oids_judged = c.judged ∙ ap (λ (m : Module). judge (collecting_rules m)) named_held

      module _ (kept : r ≡ Ok tt) where
        oids_held : definitions_in w1 ≡ (numbered ms).definitions
        oids_held = (c.held kept).definitions ∙ ap (λ (m : Module). (with_oids m).definitions) named_held

        pub numbers_held : n1 ≡ overlaid (numbered ms).numbers n0
        numbers_held = (c.held kept).numbers ∙ ap (λ (m : Module). overlaid (with_oids m).numbers n0) named_held

        pub numbers_long : counts_before (definitions_in w1) (length (definitions_in w1)) ≡ length (numbered ms).numbers
        numbers_long = ap (λ (x : List Definition). counts_before x (length x)) oids_held ∙ numbers_counted (named ms)

        -- there are no more than the buffer's
        pub numbers_few : counts_before (definitions_in w1) (length (definitions_in w1)) ≤ most_numbers
        unfolding with_oids
        numbers_few =
            let lengths = (first_kept (unreached (named_in classes values w0)) (length_rules (named_in classes values w0)) (sym c.judged ∙ kept)).1 in
            omega (arith, numbers_long, ap (λ (m : Module). first_number m (count_of m)) named_held, room_kept classes values w0 lengths)

        module _ (used : ℕ) (is : used ≡ counts_before (definitions_in w1) (length (definitions_in w1))) where
          part_held : take used n1 ≡ (numbered ms).numbers
          part_held = ap (take used) numbers_held ∙ take_at (numbered ms).numbers _ used (sym (is ∙ numbers_long))

          pub twins_judged : (j : Judgement) → j ≡ judge_one (held_twice (definitions_in w1) (take used n1))
              → j ≡ judge_one (held_twice (numbered ms).definitions (numbered ms).numbers)
          twins_judged j e = e ∙ (λ i. judge_one (held_twice (oids_held i) (part_held i)))

          module _ (s : Judgement) (w2 : List ℕ) (k : Classed text starts ends classes values s w1 w2) where
            now_classed : definitions_classed classes values (definitions_in w1) ≡ (classed ms).definitions
            unfolding with_oids
            now_classed = λ i. definitions_classed (classes_are text classes starts ends t i) (vs i) (oids_held i)

            pub classes_held : definitions_in w2 ≡ (classed ms).definitions
            classes_held = k.held ∙ now_classed

            pub syntaxes_judged : s ≡ judge (rules_over (spelled ms) (classed ms).classes (classed ms).values (classed ms).definitions)
            unfolding with_oids
            syntaxes_judged =
                k.judged
                ∙ rules_judged classes values (spelling_in text starts ends) (spelled ms) spelled_alike (definitions_classed classes values (definitions_in w1))
                ∙ (λ i. judge (rules_over (spelled ms) (classes_are text classes starts ends t i) (vs i) (now_classed i)))

            now_related : parents_added (take used n1) (definitions_in w2) ≡ (module_of ms).definitions
            now_related = λ i. parents_added (part_held i) (classes_held i)

            -- with their parents, the notifications have two numbers each, if the grammar derives the tokens
            pub two_related : DerivesTokens class_of_token smi_module (cut text).tokens
                → TwoNumbers (parents_added (take used n1) (definitions_in w2)) (take used n1)
            unfolding with_oids
            two_related derives =
                subst (λ (x : List Definition × List ℕ). TwoNumbers x.0 x.1) (sym (λ i. (now_related i, part_held i)))
                (notifications_two ms (text_numbered text derives) (sym oids_judged ∙ kept))

            module _ (o : Judgement) (w3 : List ℕ) (l : Related values (take used n1) o w2 w3) where
              pub module_held : definitions_in w3 ≡ (module_of ms).definitions
              module_held = l.held ∙ now_related

              pub objects_found : o ≡ judge (object_rules (module_of ms).definitions (module_of ms).values (module_of ms).numbers)
              unfolding with_oids
              objects_found = l.judged ∙ (λ i. judge (object_rules (now_related i) (vs i) (part_held i)))

-- ---- the answer

-- to a module that is judged, by where its tokens start
abbrev answered : List ℕ → Names → Examined
answered starts (Ok count) = Ok count
answered starts (Err f) = Err (refusal_by starts f)

pub answer_told : (ts : List Tok) (starts : List ℕ) → starts ≡ starts_of ts → (j : Judgement) (r : Names) → r ≡ counted (meanings ts) j → answered starts r ≡ examined_to (judged ts j)
answer_told ts starts held j r is = ap (answered starts) is ∙ go j
  where
    go : (i : Judgement) → answered starts (counted (meanings ts) i) ≡ examined_to (judged ts i)
    go (Ok _) = refl
    go (Err f) = ap (λ (s : List ℕ). answered s (Err f)) held

module _ (ts : List Tok) (j : Judgement) where
  pub laid_broken : (f : Finding) → j ≡ Err f → (records numbers numbers' : List ℕ) → length numbers' ≡ length numbers
      → Laid (judged ts j) records records numbers numbers'
  laid_broken f broken records numbers numbers' same =
      subst (λ (x : Judgement). Laid (judged ts x) records records numbers numbers') (sym broken) (refl, same)

  pub laid_kept : j ≡ Ok tt → (records records' numbers numbers' : List ℕ) → records' ≡ overlaid (records_of ts (module_of (meanings ts))) records
      → numbers' ≡ overlaid (module_of (meanings ts)).numbers numbers → Laid (judged ts j) records records' numbers numbers'
  laid_kept kept records records' numbers numbers' rs ns =
      subst (λ (x : Judgement). Laid (judged ts x) records records' numbers numbers') (sym kept) (rs, ns)
