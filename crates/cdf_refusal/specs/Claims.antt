-- What is claimed of the numbers. The term of this record stands in proofs/Proved.
use Rattle.std.specs.Prelude.{◌≡◌}
use Rattle.cdf_refusal.specs.declared.Refusal.{Refusal}
use Rattle.cdf_refusal.specs.Numbers.{number_of}

pub record Claims : Type 0 where
  -- Two refusals have two numbers,
  pub apart : (a b : Refusal) → number_of a ≡ number_of b → a ≡ b
  -- and none has the number of a success.
  pub refuses : (a : Refusal) → number_of a ≡ 0 → ⊥
