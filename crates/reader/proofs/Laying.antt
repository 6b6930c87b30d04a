-- How the text is parsed, and what follows for the answer and the two buffers.
-- Assumes nothing.
use mathlib.Core.Path.{◌≡◌, refl, sym, ap, subst, ◌∙◌}
use mathlib.Core.List.{List, map}
use Prim.Native.Nat.{ℕ, ◌≤◌, ◌<◌}
use native.Mathlib.Omega.{arith}
use lib.ListN.{length, get_or, take, length-map}
use lib.Seq.{ext_get_or, get_or-take, length-take-le}
use Rattle.rule.specs.Rule.{judge}
use Rattle.index.proofs.Step.{entry_made}
use Rattle.token.specs.Token.{Tok, class_of_token, no_token}
use Rattle.token.specs.Cut.{cut, meanings_in}
use Rattle.token.specs.Table.{TokenTable}
use Rattle.token.proofs.Entries.{class_at, start_at, end_at}
use Rattle.scope.specs.Token.{TokensHeld}
use Rattle.grammar.specs.Grammar.{smi_module}
use Rattle.grammar.specs.Derivation.{DerivesTokens}
use Rattle.syntax.specs.Parsing.{Parses, Tabled}
use Rattle.syntax.proofs.Parsed.{derived_text}
use Rattle.std.specs.Prelude.{Err}
use Rattle.syntax.specs.Parsing.{Parsing}
use Rattle.syntax.specs.Parsed.{parsing}
use Rattle.syntax.specs.declared.Unparsed.{Unparsed}
use Rattle.syntax.specs.declared.Unparsed.TheVariants as unparsed-case
use Rattle.syntax.specs.Parsing.{Derived}
use Rattle.reader.specs.Reading.{judged, rules, outcome}
use Rattle.reader.specs.Buffers.{examined_to, unparsed, Laid, Examined}

-- ---- the slices that hold the tokens alone

-- the first n entries of an array are the tokens' own, each made by f
part_is : (f : Tok → ℕ) (ts : List Tok) (array : List ℕ) (n : ℕ) → length ts ≡ n → n ≤ length array
    → ((i : ℕ) → i < n → get_or array i 0 ≡ f (get_or ts i no_token)) → take n array ≡ map f ts
part_is f ts array n counted room each =
    ext_get_or 0 (take n array) (map f ts) (long ∙ sym counted ∙ sym (length-map ts f))
    (λ i h.
    let inside : i < n = omega (arith, long) in
    get_or-take n array i 0 inside ∙ each i inside ∙ sym (entry_made f ts i no_token 0 (omega (arith, counted))))
  where
    long : length (take n array) ≡ n
    long = length-take-le n array room

module _ (text classes starts ends : List ℕ) (n : ℕ) (t : TokenTable text (cut text).tokens classes starts ends n) where
  pub slices_held : TokensHeld text (take n classes) (take n starts) (take n ends)
  slices_held = record {
    classes_held = part_is class_of_token (cut text).tokens classes n t.counted (omega (arith, t.few, t.classes_long)) (λ i h. class_at text (cut text).tokens classes starts ends n t i h);
    starts_held = part_is (λ (x : Tok). x.start) (cut text).tokens starts n t.counted (omega (arith, t.few, t.starts_long)) (λ i h. start_at text (cut text).tokens classes starts ends n t i h);
    ends_held = part_is (λ (x : Tok). x.end) (cut text).tokens ends n t.counted (omega (arith, t.few, t.ends_long)) (λ i h. end_at text (cut text).tokens classes starts ends n t i h);
    few = omega (arith, t.counted, t.few);
  }

-- ---- how the text is parsed

-- a text that is not derived is refused, and leaves both buffers
module _ (text : List ℕ) where
  pub unparsed_answer : (fault : Unparsed) → unparsed (parsing (Err fault)) ≡ examined_to (outcome text (parsing (Err fault)))
  unparsed_answer (unparsed-case.Underived n at) = refl
  unparsed_answer (unparsed-case.Uncut r) = refl

  pub unparsed_laid : (fault : Unparsed) (records numbers : List ℕ) → Laid (outcome text (parsing (Err fault))) records records numbers numbers
  unparsed_laid (unparsed-case.Underived n at) records numbers = (refl, refl)
  unparsed_laid (unparsed-case.Uncut r) records numbers = (refl, refl)

module _ (text : List ℕ) (p : Parsing) where
  -- one that is derived is judged
  module _ (n : ℕ) (derived : p ≡ Derived n) where
    pub derived_answer : (a : Examined) → a ≡ examined_to (judged (cut text).tokens (judge (rules (meanings_in text)))) → a ≡ examined_to (outcome text p)
    derived_answer a is = is ∙ sym (ap (λ (q : Parsing). examined_to (outcome text q)) derived)

    pub derived_laid : (records records' numbers numbers' : List ℕ) → Laid (judged (cut text).tokens (judge (rules (meanings_in text)))) records records' numbers numbers'
        → Laid (outcome text p) records records' numbers numbers'
    derived_laid records records' numbers numbers' laid = subst (λ (q : Parsing). Laid (outcome text q) records records' numbers numbers') (sym derived) laid

    pub derived_tokens : (classes starts ends : List ℕ) → Tabled text p classes starts ends → TokenTable text (cut text).tokens classes starts ends n
    derived_tokens classes starts ends t = subst (λ (q : Parsing). Tabled text q classes starts ends) derived t

    -- and the grammar derives the tokens
    pub derived_derives : Parses text p → DerivesTokens class_of_token smi_module (cut text).tokens
    derived_derives right = (derived_text text n (subst (Parses text) derived right)).derives

-- there are no more tokens than bytes
pub tokens_few : {text classes starts ends : List ℕ} → TokensHeld text classes starts ends → length classes ≤ 65536
tokens_few {text} t = omega (arith, ap length t.classes_held, length-map (cut text).tokens class_of_token, t.few)
