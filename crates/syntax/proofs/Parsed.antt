-- The right answer to a text, from what the table and the grammar's verdict say of it; that it is the only one; and the third
-- demand, from the right answer. Assumes nothing.
use Prim.Native.Nat.{ℕ, zero, suc, ◌≤◌}
use mathlib.Core.Path.{◌≡◌, refl, sym, ◌∙◌, ap, subst}
use mathlib.Core.Bool.{Bool, true, false, cond}
use mathlib.Core.List.{List, [], ◌∷◌, map}
use native.Mathlib.Omega.{arith}
use lib.Dec.{ltb, leb-suc-suc}
use lib.ListN.{length, get_or, take, drop, get_or-append, length-map}
use lib.Seq.{take_at, take_all, get_or-take, length-take-le}
use borrow.Author.Tests.{lt-ltb, le-ltb, ltb-true, ltb-false}
use Rattle.token.specs.Token.{Tok, class_of_token}
use Rattle.token.specs.Cut.{Cut, cut, cut_from, Ending, whole, refused}
use Rattle.token.specs.Law.{QuotedChange}
use Rattle.token.specs.Table.{longest_text, TokenTable, Lent, Held, overlaid, answer_to as token-answer}
use Rattle.std.specs.Prelude.{Result, Ok, Err}
use Rattle.index.specs.declared.Place.{Place}
use Rattle.token.proofs.Entries.{counted, cut_table}
use Rattle.token.proofs.Samples.{sample}
use Rattle.token.proofs.Quotes.{quotes}
use Rattle.grammar.specs.Grammar.{smi_module}
use Rattle.grammar.specs.Automaton.{run}
use Rattle.grammar.specs.Table.{module_automaton}
use Rattle.grammar.specs.Answer.{Verdict, derived}
use Rattle.grammar.specs.Answer.{refused as refused-at}
use Rattle.grammar.specs.Derivation.{BeginsTokens, EachTerminal}
use Rattle.grammar.proofs.Derivation.{token_theorem, one_token_verdict, no_tokens_refused}
use Rattle.syntax.specs.Parsing.{place_of, count, answer_to, Judges, Parses, Tabled, DerivedText, ThirdDemand}
use Rattle.syntax.specs.Placing.{placed}
use Rattle.syntax.specs.Parsing.{Parsing as Answer, Derived, Underived, Uncut}

-- the answer to a cut: the count, or the refusal's number and place
abbrev TokenAnswer : Type 0
TokenAnswer = Result ℕ (ℕ × ℕ)

-- each terminal is the class of a token: of one that some text is
each_terminal : EachTerminal class_of_token
each_terminal c h = let s = sample c h in (s.token, s.classed)

-- the run of the automaton over the classes of tokens is the right verdict on them
pub run_judges : (ts : List Tok) → Judges ts (run module_automaton (map class_of_token ts))
run_judges ts = token_theorem class_of_token each_terminal ts

abbrev starts : List Tok → List ℕ
starts ts = map (λ (t : Tok). t.start) ts

-- the place of an index, by the list of starts
place_is : (ts : List Tok) (size i : ℕ) → cond (ltb i (length ts)) (get_or (starts ts) i 0) size ≡ place_of ts size i
place_is [] size i = simp (le-ltb i 0 (omega arith))
place_is (t ∷ ts) size zero = simp (lt-ltb 0 (suc (length ts)) (omega arith))
place_is (t ∷ ts) size (suc i) = rw (leb-suc-suc (suc i) (length ts)) (place_is ts size i)

-- and by an array that holds it
array_place : (ts : List Tok) (old : List ℕ) (size i : ℕ) (b : Bool) → ltb i (length ts) ≡ b
    → cond b (get_or (overlaid (starts ts) old) i 0) size ≡ cond b (get_or (starts ts) i 0) size
array_place ts old size i true inside =
    get_or-append (starts ts) (drop (length (starts ts)) old) 0 i (rw length-map (ltb-true i (length ts) inside))
array_place ts old size i false outside = refl

place_held : (ts : List Tok) (old : List ℕ) (size i : ℕ)
    → cond (ltb i (length ts)) (get_or (overlaid (starts ts) old) i 0) size ≡ place_of ts size i
place_held ts old size i = array_place ts old size i (ltb i (length ts)) refl ∙ place_is ts size i

placed_is : (ts : List Tok) (old : List ℕ) (size : ℕ) (v : Verdict)
    → placed (length ts) (overlaid (starts ts) old) size v ≡ answer_to ts size v
placed_is ts old size derived = refl
placed_is ts old size (refused-at i) = ap (λ (p : ℕ). Underived (length ts) (record { 0 = p })) (place_held ts old size i)

-- the first n starts place what they all place
part_place : (n : ℕ) (starts' : List ℕ) (size i : ℕ) (b : Bool) → ltb i n ≡ b
    → cond b (get_or (take n starts') i 0) size ≡ cond b (get_or starts' i 0) size
part_place n starts' size i true inside = get_or-take n starts' i 0 (ltb-true i n inside)
part_place n starts' size i false outside = refl

part_placed : (n : ℕ) (starts' classes : List ℕ) (size : ℕ) (v : Verdict) → n ≤ longest_text → length classes ≡ longest_text
    → placed (length (take n classes)) (take n starts') size v ≡ placed n starts' size v
part_placed n starts' classes size v few long =
    let counted : length (take n classes) ≡ n = length-take-le n classes (omega arith) in
    rw counted (go v)
  where
    go : (v : Verdict) → placed n (take n starts') size v ≡ placed n starts' size v
    go derived = refl
    go (refused-at i) = ap (λ (p : ℕ). Underived n (record { 0 = p })) (part_place n starts' size i (ltb i n) refl)

-- what the cut left of a text that may be lent to it
module _
    (t : List ℕ) (a : TokenAnswer) (old-classes old-starts old-ends classes starts' ends : List ℕ)
    (lent : Lent t old-classes old-starts old-ends) (held : Held t a old-classes old-starts old-ends classes starts' ends)
  where
    -- how many tokens it has
    all_counted : (n : ℕ) → a ≡ Ok n → n ≡ length (cut t).tokens
    all_counted n is = (counted n (length (cut t).tokens) (cut t).ending (sym is ∙ held.answered)).0

    table : TokenTable t (cut t).tokens classes starts' ends (length (cut t).tokens)
    table = cut_table t a old-classes old-starts old-ends classes starts' ends lent held

    pub counted_table : (n : ℕ) → a ≡ Ok n → TokenTable t (cut t).tokens classes starts' ends n
    counted_table n is = rw (all_counted n is) table

    -- its answer is the one to how it ends
    answer_is : (x : TokenAnswer) (e : Ending) → a ≡ x → (cut t).ending ≡ e → x ≡ token-answer (length (cut t).tokens) e
    answer_is x e is ending = sym is ∙ held.answered ∙ ap (token-answer (length (cut t).tokens)) ending

    -- a text that the cut refuses
    pub uncut_parses : (n p : ℕ) → a ≡ Err (n, p)
        → Parses t (Uncut n (record { 0 = p })) × Tabled t (Uncut n (record { 0 = p })) classes starts' ends
    uncut_parses n p is = (
      record {
        uncut = λ m q ending.
            let same : ◌≡◌ {A = TokenAnswer} (Err (n, p)) (Err (m, q)) = answer_is _ (refused m q) is ending in
            let pair : ◌≡◌ {A = ℕ × ℕ} (n, p) (m, q) = cc in
            λ i. Uncut (pair i).0 (record { 0 = (pair i).1 });
        judged = λ ending.
            let same : ◌≡◌ {A = TokenAnswer} (Err (n, p)) (Ok (length (cut t).tokens)) = answer_is _ whole is ending in
            let zero_one : ◌≡◌ {A = ℕ} 0 1 = cc in
            absurd (omega arith);
      },
      table,
    )

    tabled : (v : Verdict) → Tabled t (answer_to (cut t).tokens (length t) v) classes starts' ends
    tabled derived = table
    tabled (refused-at i) = table

    -- a text that cuts into tokens
    pub judged_parses : (n : ℕ) (r : Answer) → a ≡ Ok n
        → r ≡ placed (length (take n classes)) (take n starts') (length t) (run module_automaton (take n classes))
        → Parses t r × Tabled t r classes starts' ends
    judged_parses n r is answer =
        let ts = (cut t).tokens in
        let sequence = map class_of_token ts in
        let verdict = run module_automaton sequence in
        let all : take (length ts) (overlaid sequence old-classes) ≡ sequence =
        take_at sequence (drop (length sequence) old-classes) (length ts) (length-map ts class_of_token) in
        let is-placed = placed_is ts old-starts (length t) verdict in
        let right : r ≡ answer_to ts (length t) verdict =
        answer ∙ part_placed n starts' classes (length t) _ (counted_table n is).few (counted_table n is).classes_long ∙ rw (all_counted n is, held.classes_held, held.starts_held, all) is-placed in (
          record {
            uncut = λ m p ending.
                let same : ◌≡◌ {A = TokenAnswer} (Ok n) (Err (m, p)) = answer_is _ (refused m p) is ending in
                let zero_one : ◌≡◌ {A = ℕ} 0 1 = cc in
                absurd (omega arith);
            judged = λ ending. (verdict, run_judges ts, right);
          },
          subst (λ (x : Answer). Tabled t x classes starts' ends) (sym right) (tabled verdict),
        )

-- a refusal is no derivation
never : (i : ℕ) → refused-at i ≡ derived → ⊥
never i same = let zero_one : ◌≡◌ {A = ℕ} 0 1 = cc in omega arith

-- the answer counts no more tokens than the text has
module _ (t : List ℕ) (answer : Answer) (right : Parses t answer) where
  count_of : (v : Verdict) → count (answer_to (cut t).tokens (length t) v) ≡ length (cut t).tokens
  count_of derived = refl
  count_of (refused-at i) = refl

  count_at : (e : Ending) → (cut t).ending ≡ e → count answer ≤ length (cut t).tokens
  count_at whole ending =
      let judged = right.judged ending in
      omega (arith, ap count judged.2, count_of judged.0)
  count_at (refused n p) ending = omega (arith, ap count (right.uncut n p ending))

  pub count_few : count answer ≤ length (cut t).tokens
  count_few = count_at (cut t).ending refl

-- a text that is answered `Derived n`
module _ (t : List ℕ) (n : ℕ) (right : Parses t (Derived n)) where
  derived_of : (v : Verdict) → Judges (cut t).tokens v → Derived n ≡ answer_to (cut t).tokens (length t) v
      → (cut t).ending ≡ whole → DerivedText t n
  derived_of derived judges is ending =
      let counted : n ≡ length (cut t).tokens = cc in
      record { cut_whole = ending; counted = sym counted; derives = judges.accepts.0 refl }
  derived_of (refused-at i) judges is ending = let zero_one : ◌≡◌ {A = ℕ} 0 1 = cc in absurd (omega arith)

  derived_at : (e : Ending) → (cut t).ending ≡ e → DerivedText t n
  derived_at whole ending = let judged = right.judged ending in derived_of judged.0 judged.1 judged.2 ending
  derived_at (refused m p) ending =
      let is : Derived n ≡ Uncut m (record { 0 = p }) = right.uncut m p ending in
      let zero_one : ◌≡◌ {A = ℕ} 0 1 = cc in
      absurd (omega arith)

  pub derived_text : DerivedText t n
  derived_text = derived_at (cut t).ending refl

-- the table that an answer comes with
module _
    (t : List ℕ) (answer : Answer) (n : ℕ) (classes starts' ends : List ℕ)
    (tabled : Tabled t answer classes starts' ends)
  where
    pub derived_table : answer ≡ Derived n → TokenTable t (cut t).tokens classes starts' ends n
    derived_table is = subst (λ (x : Answer). Tabled t x classes starts' ends) is tabled

    pub underived_table : (at : Place) → answer ≡ Underived n at → TokenTable t (cut t).tokens classes starts' ends n
    underived_table at is = subst (λ (x : Answer). Tabled t x classes starts' ends) is tabled

-- a text has one right answer
module _ (t : List ℕ) (x y : Answer) (p : Parses t x) (q : Parses t y) where
  same_at : (e : Ending) → (cut t).ending ≡ e → x ≡ y
  same_at whole ending =
      let a = p.judged ending in
      let b = q.judged ending in
      a.2
      ∙ ap (answer_to (cut t).tokens (length t)) (one_token_verdict class_of_token (cut t).tokens a.0 b.0 a.1 b.1)
      ∙ sym b.2
  same_at (refused m r) ending = p.uncut m r ending ∙ sym (q.uncut m r ending)

  pub one_answer : x ≡ y
  one_answer = same_at (cut t).ending refl

module _ (t : List ℕ) where
  begun : (i : ℕ) → Judges (cut t).tokens (refused-at i) → (b : Bool) → ltb i (length (cut t).tokens) ≡ b
      → BeginsTokens class_of_token smi_module (take i (cut t).tokens)
  begun i right true inside = (right.spoiled i refl (ltb-true _ _ inside)).0
  begun i right false outside =
      let end : i ≡ length (cut t).tokens = omega (arith, right.within i refl, ltb-false i (length (cut t).tokens) outside) in
      rw (take_all i (cut t).tokens (omega arith)) (right.cut_short (ap refused-at end)).0

  demand_of : (v : Verdict) → Judges (cut t).tokens v → ThirdDemand t (answer_to (cut t).tokens (length t) v)
  demand_of derived right = record {
    exactly = (λ seven. absurd (omega arith), λ none. absurd (none (right.accepts.0 refl)));
    otherwise = (λ _. right.accepts.0 refl, λ _. refl);
    at_fault = λ seven. absurd (omega arith);
    one_reading = right.one_reading;
  }
  demand_of (refused-at i) right = record {
    exactly = (λ _ some. never i (right.accepts.1 some), λ _. refl);
    otherwise = (λ seven. absurd (omega arith), λ some. absurd (never i (right.accepts.1 some)));
    at_fault = λ _. record {
      index = i;
      within = right.within i refl;
      stands = refl;
      begun = begun i right (ltb i (length (cut t).tokens)) refl;
      spoiled = λ inside. (right.spoiled i refl inside).1;
    };
    one_reading = right.one_reading;
  }

  -- the third demand, of every text that cuts into tokens
  pub third_demand : (answer : Answer) → Parses t answer → (cut t).ending ≡ whole → ThirdDemand t answer
  third_demand answer right ending =
      let judged = right.judged ending in
      subst (ThirdDemand t) (sym judged.2) (demand_of judged.0 judged.1)

-- P5: the right answer to the empty text is refusal 7 at place 0
pub empty_text : (answer : Answer) → Parses [] answer → answer ≡ Underived 0 (record { 0 = 0 })
unfolding cut cut_from
empty_text answer right =
    let judged = right.judged refl in
    judged.2 ∙ ap (answer_to [] 0) (no_tokens_refused class_of_token each_terminal judged.0 judged.1)

-- the second demand's sentence on quotes, as far as refusals 3 to 7: two texts that differ only in allowed bytes strictly inside
-- text tokens have equal answers
module _ (a b : List ℕ) (change : QuotedChange a b) where
  carried_over : (answer : Answer) → Parses a answer → Parses b answer
  carried_over answer right =
      let same = quotes a b change in
      record {
        uncut = λ n p ending. right.uncut n p (ap (λ (c : Cut). c.ending) same ∙ ending);
        judged = λ ending.
            let judged = right.judged (ap (λ (c : Cut). c.ending) same ∙ ending) in (
              judged.0,
              subst (λ (c : Cut). Judges c.tokens judged.0) same judged.1,
              judged.2
                  ∙ ap (λ (c : Cut). answer_to c.tokens (length a) judged.0) same
                  ∙ ap (λ (n : ℕ). answer_to (cut b).tokens n judged.0) change.same_length,
            );
      }

  pub quotes_answer : (x y : Answer) → Parses a x → Parses b y → x ≡ y
  quotes_answer x y p q = one_answer b x y (carried_over x p) q
