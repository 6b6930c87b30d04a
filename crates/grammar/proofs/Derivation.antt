-- From classes to tokens: the derivations of a token sequence are one to one the trees of its class sequence, so that the right
-- verdict on the one is right on the other. By induction on the rule.
-- Assumes nothing.
use mathlib.Core.Path.{◌≡◌, refl, sym, ◌∙◌, ap, ap₂, subst}
use mathlib.Core.List.{List, [], ◌∷◌, ◌++◌, map, map-append, append_assoc, cons-ne-nil, head-eq_of_cons-eq, tail-eq_of_cons-eq}
use mathlib.Core.HLevel.{Σ_prop_path}
use mathlib.Core.Logic.{◌↔◌, inl, inr}
use mathlib.Core.Sum.{inl-injective, inr-injective, inl-ne-inr}
use Prim.Native.Nat.{ℕ, zero, suc, ◌+◌}
use lib.Dec.{T, T_prop, eqb, eqb→eq, eqb_refl}
use lib.ListN.{take, length-map}
use Rattle.grammar.specs.Answer.{Verdict, refused, Derives, Begins, Answers}
use Rattle.grammar.specs.Derivation.{Derivation, tokens_of, tree_of, DerivesTokens, BeginsTokens, AnswersTokens, Inhabited, EachTerminal}
use Rattle.grammar.specs.Rule.{Rule, never, empty, token, ◌⨾◌, ◌or◌, repeated, last, step, Tree, yield}
use Rattle.grammar.specs.Automaton.{run}
use Rattle.grammar.specs.Grammar.{smi_module}
use Rattle.grammar.specs.Table.{module_automaton}
use Rattle.terminal.specs.Terminal.{terminals}
use Rattle.grammar.proofs.OneVerdict.{one_verdict}
use Rattle.grammar.proofs.Part.{same_last, same_step, last_no_step}
use Rattle.grammar.proofs.Passes.{below, All-below, all_after, yields_below}
use Rattle.grammar.proofs.Right.{Unique}
use Rattle.grammar.proofs.Theorem.{grammar_theorem, no_tokens}

module _ {A : Type 0} (class : A → ℕ) where
  abbrev classes : List A → List ℕ
  classes ts = map class ts

  -- the tree yields the classes of the derivation's tokens
  abbrev Classed : Rule → Type 0
  Classed r = (d : Derivation class r) → yield r (tree_of class r d) ≡ classes (tokens_of class r d)

  -- one part after the other
  classed_both : {l m : List ℕ} (xs ys : List A) → l ≡ classes xs → m ≡ classes ys → l ++ m ≡ classes (xs ++ ys)
  classed_both xs ys p q = ap₂ (λ l m. l ++ m) p q ∙ sym (map-append class xs ys)

  classed_steps : (r s : Rule) → Classed r → Classed s → Classed (repeated r s)
  classed_steps r s f g (last d) = g d
  classed_steps r s f g (step d more) =
      classed_both (tokens_of class r d) (tokens_of class (repeated r s) more) (f d) (classed_steps r s f g more)

  pub tree_yield : (r : Rule) → Classed r
  tree_yield never = λ d. absurd d
  tree_yield empty = λ d. refl
  tree_yield (token c) = λ d. ap (λ k. k ∷ []) (sym (eqb→eq (class d.0) c d.1))
  tree_yield (r ⨾ s) =
      let f = tree_yield r in
      let g = tree_yield s in
      λ d. classed_both (tokens_of class r d.0) (tokens_of class s d.1) (f d.0) (g d.1)
  tree_yield (r or s) =
      let f = tree_yield r in
      let g = tree_yield s in
      elim [ inl x ↦ f x | inr y ↦ g y ]
  tree_yield (repeated r s) = classed_steps r s (tree_yield r) (tree_yield s)

  -- tokens whose classes are two lists, one after the other, are two lists of tokens
  record Divided (l m : List ℕ) (ts : List A) : Type 0 where
    front : List A
    back : List A
    whole : front ++ back ≡ ts
    front_classes : l ≡ classes front
    back_classes : m ≡ classes back

  divided : (l m : List ℕ) (ts : List A) → l ++ m ≡ classes ts → Divided l m ts
  divided [] m ts e = record { front = []; back = ts; whole = refl; front_classes = refl; back_classes = e }
  divided (c ∷ l) m [] e = absurd (cons-ne-nil c (l ++ m) e)
  divided (c ∷ l) m (t ∷ ts) e =
      let rest = divided l m ts (tail-eq_of_cons-eq e) in
      record {
        front = t ∷ rest.front;
        back = rest.back;
        whole = ap (λ xs. t ∷ xs) rest.whole;
        front_classes = ap₂ (λ k xs. k ∷ xs) (head-eq_of_cons-eq e) rest.front_classes;
        back_classes = rest.back_classes;
      }

  -- the derivation of ts that has the tree t
  pub record Filled (r : Rule) (t : Tree r) (ts : List A) : Type 0 where
    pub derivation : Derivation class r
    pub its_tree : tree_of class r derivation ≡ t
    pub its_tokens : tokens_of class r derivation ≡ ts

  -- each tree that yields the classes of some tokens is that of a derivation of these tokens
  abbrev Fillable : Rule → Type 0
  Fillable r = (t : Tree r) (ts : List A) → yield r t ≡ classes ts → Filled r t ts

  filled_token : (c : ℕ) → Fillable (token c)
  filled_token c t [] e = absurd (cons-ne-nil c [] e)
  filled_token c t (a ∷ []) e =
      record {
        derivation = (a, subst (λ k. T (eqb (class a) k)) (sym (head-eq_of_cons-eq e)) (eqb_refl (class a)));
        its_tree = refl;
        its_tokens = refl;
      }
  filled_token c t (a ∷ b ∷ ts) e = absurd (cons-ne-nil (class b) (classes ts) (sym (tail-eq_of_cons-eq e)))

  filled_steps : (r s : Rule) → Fillable r → Fillable s → Fillable (repeated r s)
  filled_steps r s f g (last t) ts e =
      let x = g t ts e in
      record { derivation = last x.derivation; its_tree = ap last x.its_tree; its_tokens = x.its_tokens }
  filled_steps r s f g (step t more) ts e =
      let parts = divided (yield r t) (yield (repeated r s) more) ts e in
      let x = f t parts.front parts.front_classes in
      let y = filled_steps r s f g more parts.back parts.back_classes in
      record {
        derivation = step x.derivation y.derivation;
        its_tree = ap₂ step x.its_tree y.its_tree;
        its_tokens = ap₂ (λ xs ys. xs ++ ys) x.its_tokens y.its_tokens ∙ parts.whole;
      }

  pub tree_onto : (r : Rule) → Fillable r
  tree_onto never = λ t ts e. absurd t
  tree_onto empty = λ t ts e. record { derivation = tt; its_tree = refl; its_tokens = no_classes ts e }
    where
      no_classes : (ts : List A) → [] ≡ classes ts → [] ≡ ts
      no_classes [] e = refl
      no_classes (a ∷ ts) e = absurd (cons-ne-nil (class a) (classes ts) (sym e))
  tree_onto (token c) = filled_token c
  tree_onto (r ⨾ s) =
      let f = tree_onto r in
      let g = tree_onto s in
      λ t ts e.
      let parts = divided (yield r t.0) (yield s t.1) ts e in
      let x = f t.0 parts.front parts.front_classes in
      let y = g t.1 parts.back parts.back_classes in
      record {
        derivation = (x.derivation, y.derivation);
        its_tree = ap₂ (λ u v. (u, v)) x.its_tree y.its_tree;
        its_tokens = ap₂ (λ xs ys. xs ++ ys) x.its_tokens y.its_tokens ∙ parts.whole;
      }
  tree_onto (r or s) =
      let f = tree_onto r in
      let g = tree_onto s in
      elim [
        | inl u ↦ λ ts e.
            let x = f u ts e in
            record { derivation = inl x.derivation; its_tree = ap inl x.its_tree; its_tokens = x.its_tokens }
        | inr u ↦ λ ts e.
            let x = g u ts e in
            record { derivation = inr x.derivation; its_tree = ap inr x.its_tree; its_tokens = x.its_tokens }
      ]
  tree_onto (repeated r s) = filled_steps r s (tree_onto r) (tree_onto s)

  -- Two derivations with the same tree, each with tokens after it, are equal where the tokens are; and so are those after.
  abbrev Determined : Rule → Type 0
  Determined r =
      (d e : Derivation class r) → tree_of class r d ≡ tree_of class r e
      → (xs ys : List A) → tokens_of class r d ++ xs ≡ tokens_of class r e ++ ys → (d ≡ e) × (xs ≡ ys)

  -- equal tokens at a leaf: that their class is the rule's is a test, and has one proof
  determined_token : (c : ℕ) → Determined (token c)
  determined_token c d e p xs ys q =
      (Σ_prop_path (λ a. T_prop (eqb (class a) c)) (head-eq_of_cons-eq q), tail-eq_of_cons-eq q)

  -- one part after the other
  determined_both : {D E : Type 0} (f : D → List A) (g : E → List A) (d d' : D) (e e' : E)
      → ((xs ys : List A) → f d ++ xs ≡ f d' ++ ys → (d ≡ d') × (xs ≡ ys))
      → ((xs ys : List A) → g e ++ xs ≡ g e' ++ ys → (e ≡ e') × (xs ≡ ys))
      → (xs ys : List A) → (f d ++ g e) ++ xs ≡ (f d' ++ g e') ++ ys → (d ≡ d') × (e ≡ e') × (xs ≡ ys)
  determined_both f g d d' e e' first second xs ys q =
      let parts = first (g e ++ xs) (g e' ++ ys) (sym (append_assoc (f d) (g e) xs) ∙ q ∙ append_assoc (f d') (g e') ys) in
      let rest = second xs ys parts.1 in
      (parts.0, rest.0, rest.1)

  determined_steps : (r s : Rule) → Determined r → Determined s → Determined (repeated r s)
  determined_steps r s f g (last d) (last e) p xs ys q =
      let x = g d e (same_last p) xs ys q in
      (ap last x.0, x.1)
  determined_steps r s f g (last d) (step e n) p xs ys q = absurd (last_no_step p)
  determined_steps r s f g (step d m) (last e) p xs ys q = absurd (last_no_step (sym p))
  determined_steps r s f g (step d m) (step e n) p xs ys q =
      let x =
      determined_both (tokens_of class r) (tokens_of class (repeated r s)) d e m n (f d e (same_step p).0)
      (determined_steps r s f g m n (same_step p).1) xs ys q in
      (ap₂ step x.0 x.1, x.2)

  determined_either : (r s : Rule) → Determined r → Determined s → Determined (r or s)
  determined_either r s f g (inl d) (inl e) p xs ys q =
      let x = f d e (inl-injective (tree_of class r d) (tree_of class r e) p) xs ys q in
      (ap inl x.0, x.1)
  determined_either r s f g (inl d) (inr e) p xs ys q = absurd (inl-ne-inr p)
  determined_either r s f g (inr d) (inl e) p xs ys q = absurd (inl-ne-inr (sym p))
  determined_either r s f g (inr d) (inr e) p xs ys q =
      let x = g d e (inr-injective (tree_of class s d) (tree_of class s e) p) xs ys q in
      (ap inr x.0, x.1)

  determined : (r : Rule) → Determined r
  determined never = λ d. absurd d
  determined empty = λ d e p xs ys q. (refl, q)
  determined (token c) = determined_token c
  determined (r ⨾ s) =
      let f = determined r in
      let g = determined s in
      λ d e p xs ys q.
      let x =
      determined_both (tokens_of class r) (tokens_of class s) d.0 e.0 d.1 e.1 (f d.0 e.0 (ap (λ t. t.0) p))
      (g d.1 e.1 (ap (λ t. t.1) p)) xs ys q in
      (ap₂ (λ u v. (u, v)) x.0 x.1, x.2)
  determined (r or s) = determined_either r s (determined r) (determined s)
  determined (repeated r s) = determined_steps r s (determined r) (determined s)

  -- each derivation of some tokens has a tree of its own
  pub tree_once : (r : Rule) (d e : Derivation class r) → tree_of class r d ≡ tree_of class r e
      → tokens_of class r d ≡ tokens_of class r e → d ≡ e
  tree_once r d e p q = (determined r d e p [] [] (ap (λ l. l ++ []) q)).0

  -- the tree of a derivation of ts yields the classes of ts
  yields_classes : (r : Rule) (ts : List A) (d : Derivation class r) → tokens_of class r d ≡ ts
      → yield r (tree_of class r d) ≡ classes ts
  yields_classes r ts d e = tree_yield r d ∙ ap classes e

  -- tokens are derived exactly where their classes are
  pub derives_tokens : (r : Rule) (ts : List A) → Derives r (map class ts) ↔ DerivesTokens class r ts
  derives_tokens r ts = (
    λ t. let x = tree_onto r t.0 ts t.1 in (x.derivation, x.its_tokens),
    λ d. (tree_of class r d.0, yields_classes r ts d.0 d.1),
  )

  -- tokens have two derivations only where their classes have
  pub one_reading_tokens : (r : Rule) (ts : List A)
      → Unique r (map class ts) → (d e : Derivation class r) → tokens_of class r d ≡ ts → tokens_of class r e ≡ ts → d ≡ e
  one_reading_tokens r ts unique d e p q =
      tree_once r d e (unique (tree_of class r d) (tree_of class r e) (yields_classes r ts d p) (yields_classes r ts e q)) (p ∙ sym q)

  take_classes : (i : ℕ) (ts : List A) → take i (classes ts) ≡ classes (take i ts)
  take_classes zero ts = refl
  take_classes (suc i) [] = refl
  take_classes (suc i) (t ∷ ts) = ap (λ l. class t ∷ l) (take_classes i ts)

  -- where each class below n has a token, and the rule names no other class
  module _ (n : ℕ) (inhabited : Inhabited class n) (r : Rule) (named : T (below n r)) where
    chosen : (l : List ℕ) → All-below n l → (xs : List A) × (l ≡ classes xs)
    chosen [] h = ([], refl)
    chosen (c ∷ l) h =
        let a = inhabited c h.0 in
        let rest = chosen l h.1 in
        (a.0 ∷ rest.0, ap₂ (λ k m. k ∷ m) (sym a.1) rest.1)

    -- some derived sequence begins with tokens exactly where one begins with their classes
    pub begins_tokens : (ts : List A) → Begins r (map class ts) ↔ BeginsTokens class r ts
    begins_tokens ts = (
      λ b.
          let below_all = subst (All-below n) b.1.1 (yields_below n r named b.1.0) in
          let xs = chosen b.0 (all_after n (classes ts) b.0 below_all) in
          let same = b.1.1 ∙ ap (λ m. classes ts ++ m) xs.1 ∙ sym (map-append class ts xs.0) in
          (xs.0, (derives_tokens r (ts ++ xs.0)).0 (b.1.0, same)),
      λ b.
          let t = (derives_tokens r (ts ++ b.0)).1 b.1 in
          (classes b.0, (t.0, t.1 ∙ map-append class ts b.0)),
    )

    -- the right verdict on the classes is the right one on the tokens
    pub answers_tokens : (ts : List A) (v : Verdict) → Answers r (map class ts) v → AnswersTokens class r ts v
    answers_tokens ts v a =
        record {
          accepts = (λ e. (derives_tokens r ts).0 (a.accepts.0 e), λ d. a.accepts.1 ((derives_tokens r ts).1 d));
          spoiled = λ i e l.
              let b = a.spoiled i e (rw length-map l) in (
                (begins_tokens (take i ts)).0 (rw take_classes at b.0),
                λ x. b.1 (rw take_classes ((begins_tokens (take (i + 1) ts)).1 x)),
              );
          cut_short = λ e.
              let b = a.cut_short (rw length-map e) in
              ((begins_tokens ts).0 b.0, λ d. b.1 ((derives_tokens r ts).1 d));
          within = λ i e. rw length-map at (a.within i e);
          one_reading = one_reading_tokens r ts a.one_reading;
        }

-- each class that the grammar names is a terminal
module_below : T (below terminals smi_module)
unfolding smi_module
module_below = tt

module _ {A : Type 0} (class : A → ℕ) where
  -- no other verdict on a token sequence is right
  pub one_token_verdict : (ts : List A) (v w : Verdict)
      → AnswersTokens class smi_module ts v → AnswersTokens class smi_module ts w → v ≡ w
  one_token_verdict = one_verdict (tokens_of class smi_module)

  -- where each terminal has a token
  module _ (inhabited : EachTerminal class) where
    pub carried : (ts : List A) (v : Verdict) → Answers smi_module (map class ts) v → AnswersTokens class smi_module ts v
    carried = answers_tokens class terminals inhabited smi_module module_below

    -- The theorem on the grammar, over every token sequence of any length.
    pub token_theorem : (ts : List A) → AnswersTokens class smi_module ts (run module_automaton (map class ts))
    token_theorem ts = carried ts (run module_automaton (map class ts)) (grammar_theorem (map class ts))

    -- P5: the one right verdict on the sequence without tokens is that it is refused at token 0
    pub no_tokens_refused : (v : Verdict) → AnswersTokens class smi_module [] v → v ≡ refused 0
    no_tokens_refused v a = one_token_verdict [] v (run module_automaton []) a (token_theorem []) ∙ no_tokens
