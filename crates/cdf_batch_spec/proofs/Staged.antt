-- NEXT's rules in two stages: those that ask nothing of the own data (2, 6, 7, 10, 8), and what is asked behind them (9, 13, 12).
use Rattle.std.proofs.Common.{ℕ, ◌≤◌, ◌≡◌, refl, sym, ap, subst, ◌∙◌, Bool, true, false, cond, not, ◌||◌, List, [], ◌⊎◌, inl, inr, arith, ltb, eqb}
use Rattle.std.proofs.Common.{length, replicate}
use Rattle.std.proofs.lemmas.List.{length-replicate}
use Rattle.cdf_unit_table.specs.Ids.{known, action_allowed}
use Rattle.cdf_unit_prefix.specs.Layout.{Layout}
use Rattle.cdf_grammar.specs.Encoding.{Item}
use Rattle.cdf_builder_spec.specs.Place.{BuilderPlace, fits}
use Rattle.cdf_builder_spec.specs.Requests.{right_data}
use Rattle.cdf_builder_spec.specs.Calls.{Decision, decide_of, call_of}
use Rattle.cdf_builder_spec.specs.Orders.{first_broken, homeless, incomplete, size_with, next_rules}
use Rattle.cdf_builder_spec.proofs.Orders.{next_order, decided}
use Rattle.cdf_batch_spec.specs.declared.UnitRequest.{UnitRequest}
use Rattle.cdf_batch_spec.specs.Asking.{with, unbounded}
use Rattle.cdf_batch_spec.specs.Refusing.{Early}

-- The first stage, by whether each of its rules is broken, and the second.
abbrev pub stage : Bool → Bool → Bool → Bool → Bool → ℕ → ℕ
stage a b c d e next = cond a 2 (cond b 6 (cond c 7 (cond d 10 (cond e 8 next))))

abbrev pub late : Bool → Bool → Bool → ℕ
late f g h = cond f 9 (cond g 13 (cond h 12 0))

-- An early number is 6, 7, 8 or 10.
early_is : (n : ℕ) → Early n → (6 ≤ n) × (n ≤ 10) × (n ≡ 9 → ⊥)
early_is n (inl e) = (omega arith, omega arith, λ z. omega arith)
early_is n (inr (inl e)) = (omega arith, omega arith, λ z. omega arith)
early_is n (inr (inr (inl e))) = (omega arith, omega arith, λ z. omega arith)
early_is n (inr (inr (inr (inl e)))) = (omega arith, omega arith, λ z. omega arith)
early_is n (inr (inr (inr (inr e)))) = absurd e

-- The second stage tells none.
late_is : (f g h : Bool) → Early (late f g h) → ⊥
late_is true g h x = (early_is 9 x).2 refl
late_is false true h x = let w = early_is 13 x in omega (arith, w.1)
late_is false false true x = let w = early_is 12 x in omega (arith, w.1)
late_is false false false x = let w = early_is 0 x in omega (arith, w.0)

-- Of a first stage that does not tell 2, with 9 behind it: it tells an early number, whatever stands behind; or it tells none, and 9 is told.
sorted : (a b c d e : Bool) (told next : List ℕ → ℕ) → ((own : List ℕ) → told own ≡ stage a b c d e (next own)) →
    ((own : List ℕ) → Early (next own) → ⊥) → (m : ℕ) → m ≡ stage a b c d e 9 → (m ≡ 2 → ⊥) →
    (Early m × ((own : List ℕ) → told own ≡ m)) ⊎ (((own : List ℕ) → Early (told own) → ⊥) × (m ≡ 9))
sorted true b c d e told next each never m is some = absurd (some is)
sorted false true c d e told next each never m is some = inl (inl is, λ own. each own ∙ sym is)
sorted false false true d e told next each never m is some = inl (inr (inl is), λ own. each own ∙ sym is)
sorted false false false true e told next each never m is some = inl (inr (inr (inl is)), λ own. each own ∙ sym is)
sorted false false false false true told next each never m is some = inl (inr (inr (inr (inl is))), λ own. each own ∙ sym is)
sorted false false false false false told next each never m is some = inr (λ own x. never own (subst Early (each own) x), is)

-- Neither 2 nor 21.
abbrev pub Other : ℕ → Type 0
Other n = (n ≡ 2 → ⊥) × (n ≡ 21 → ⊥)

late_other : (f g h : Bool) → Other (late f g h)
late_other true g h = (λ z. omega arith, λ z. omega arith)
late_other false true h = (λ z. omega arith, λ z. omega arith)
late_other false false true = (λ z. omega arith, λ z. omega arith)
late_other false false false = (λ z. omega arith, λ z. omega arith)

stage_other : (b c d e : Bool) (next : ℕ) → Other next → Other (stage false b c d e next)
stage_other true c d e next o = (λ z. omega arith, λ z. omega arith)
stage_other false true d e next o = (λ z. omega arith, λ z. omega arith)
stage_other false false true e next o = (λ z. omega arith, λ z. omega arith)
stage_other false false false true next o = (λ z. omega arith, λ z. omega arith)
stage_other false false false false next o = o

stage_some : (a b c d e : Bool) → stage a b c d e 9 ≡ 0 → ⊥
stage_some true b c d e z = omega (arith, z)
stage_some false true c d e z = omega (arith, z)
stage_some false false true d e z = omega (arith, z)
stage_some false false false true e z = omega (arith, z)
stage_some false false false false true z = omega (arith, z)
stage_some false false false false false z = omega (arith, z)

-- Whether a number is told before the own data is looked at, by tests of it.
abbrev pub is_early : ℕ → Bool
is_early n = eqb n 2 || (eqb n 6 || (eqb n 7 || (eqb n 10 || eqb n 8)))

-- Such a number stays where 9 stands behind the first stage, any other becomes 9.
nine_by : (a b c d e f g h : Bool) →
    stage a b c d e 9 ≡ cond (is_early (stage a b c d e (late f g h))) (stage a b c d e (late f g h)) 9
nine_by true b c d e f g h = refl
nine_by false true c d e f g h = refl
nine_by false false true d e f g h = refl
nine_by false false false true e f g h = refl
nine_by false false false false true f g h = refl
nine_by false false false false false true g h = refl
nine_by false false false false false false true h = refl
nine_by false false false false false false false true = refl
nine_by false false false false false false false false = refl

-- A request's rules at a place.
module _ (l : Layout) (n : ℕ) (p : BuilderPlace) (r : UnitRequest) where
  abbrev unfit : Bool
  unfit = not (fits l n p)

  abbrev unknown : Bool
  unknown = not (known r.id)

  abbrev alone : Bool
  alone = homeless r.id p.units

  abbrev open_end : Bool
  open_end = incomplete r.id p.units

  abbrev wrong : Bool
  wrong = not (action_allowed r.id r.action)

  abbrev item : List ℕ → Item
  item own = record { id = r.id; action = r.action; text = own }

  -- What is asked behind the first stage, with this own data.
  abbrev behind : List ℕ → ℕ
  behind own =
      late (not (right_data r.id own)) (ltb l.limit (size_with l p (with r own))) (ltb n (size_with l p (with r own)))

  behind_late : (own : List ℕ) → Early (behind own) → ⊥
  behind_late own = late_is (not (right_data r.id own)) (ltb l.limit (size_with l p (with r own))) (ltb n (size_with l p (with r own)))

  behind_other : (own : List ℕ) → Other (behind own)
  behind_other own =
      late_other (not (right_data r.id own)) (ltb l.limit (size_with l p (with r own))) (ltb n (size_with l p (with r own)))

  rules_are : (own : List ℕ) → first_broken (next_rules l n p (item own)) ≡ stage unfit unknown alone open_end wrong (behind own)
  unfolding first_broken next_rules
  rules_are own = refl

  -- Of a buffer only the length is asked, so any of that length tells what is decided.
  decide_is : (own : List ℕ) → (decide_of l n p (with r own)).number ≡ stage unfit unknown alone open_end wrong (behind own)
  decide_is own = subst Decides (length-replicate n 0) (at_length (replicate n 0)) ∙ rules_are own
    where
      Decides : ℕ → Type 0
      Decides m = (decide_of l m p (with r own)).number ≡ first_broken (next_rules l m p (item own))

      at_length : (s : List ℕ) → Decides (length s)
      at_length s = ap (λ (d : Decision). d.number) (decided l s p (with r own)) ∙ next_order l s p (item own)

  pub unbounded_is : unbounded l n p r ≡ stage unfit unknown alone open_end wrong 9
  unfolding unbounded
  unbounded_is = refl

  -- So a decision without own data tells the number where the bounds are bad: what it tells before 9, and else 9.
  pub unbounded_by : unbounded l n p r ≡ cond (is_early (decide_of l n p (with r [])).number) (decide_of l n p (with r [])).number 9
  unbounded_by =
      rw (unbounded_is, decide_is [])
      (nine_by unfit unknown alone open_end wrong (not (right_data r.id [])) (ltb l.limit (size_with l p (with r [])))
      (ltb n (size_with l p (with r []))))

  -- Bad bounds are refused.
  pub unbounded_some : unbounded l n p r ≡ 0 → ⊥
  unbounded_some z = stage_some unfit unknown alone open_end wrong (sym unbounded_is ∙ z)

  -- At a place that fits neither 2 nor 21 is told of a request.
  module _ (fit : fits l n p ≡ true) where
    fitting : {next : ℕ} → Other next → Other (stage unfit unknown alone open_end wrong next)
    fitting {next} o = rw fit (stage_other unknown alone open_end wrong next o)

    pub unbounded_other : Other (unbounded l n p r)
    unbounded_other = rw unbounded_is (fitting (λ z. omega arith, λ z. omega arith))

module _ (l : Layout) (s : List ℕ) (p : BuilderPlace) (r : UnitRequest) where
  with_is : (own : List ℕ) →
      (call_of l s p (with r own)).number
      ≡ stage (unfit l (length s) p r) (unknown l (length s) p r) (alone l (length s) p r) (open_end l (length s) p r)
      (wrong l (length s) p r) (behind l (length s) p r own)
  with_is own = sym (ap (λ (d : Decision). d.number) (decided l s p (with r own))) ∙ decide_is l (length s) p r own

  pub with_other : fits l (length s) p ≡ true → (own : List ℕ) → Other (call_of l s p (with r own)).number
  with_other fit own = rw (with_is own) (fitting l (length s) p r fit (behind_other l (length s) p r own))

  -- Where the bounds are bad: an early number that every text gets, or 9 where none gets one.
  pub either : (unbounded l (length s) p r ≡ 2 → ⊥) →
      (Early (unbounded l (length s) p r) × ((own : List ℕ) → (call_of l s p (with r own)).number ≡ unbounded l (length s) p r))
      ⊎ (((own : List ℕ) → Early (call_of l s p (with r own)).number → ⊥) × (unbounded l (length s) p r ≡ 9))
  either some =
      let n = length s in
      sorted (unfit l n p r) (unknown l n p r) (alone l n p r) (open_end l n p r) (wrong l n p r) (λ own. (call_of l s p (with r own)).number)
      (behind l n p r) with_is (behind_late l n p r) (unbounded l n p r) (unbounded_is l n p r) some
