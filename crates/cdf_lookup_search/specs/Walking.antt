-- What one walk over the units of a stream tells: what the check says, whether the root is an E/R group, and what the search finds.
use Rattle.std.specs.Prelude.{ℕ, ◌≡◌, Bool, cond, List, eqb, Result, Ok, Err}
use Rattle.cdf_refusal.specs.Numbers.{number_of}
use Rattle.cdf_unit_prefix.specs.Layout.{Layout}
use Rattle.cdf_unit_list.specs.Units.{listing}
use Rattle.cdf_unit_list.specs.Check.{check_of}
use Rattle.cdf_lookup_spec.specs.Find.{Query, Value, is_group}
use Rattle.cdf_lookup_spec.specs.Search.{search_of}
use Rattle.cdf_lookup_search.specs.Placed.{Placed}
use Rattle.cdf_lookup_search.specs.declared.Broken.{Broken}
use Rattle.cdf_lookup_search.specs.declared.Walked.{Walked}

-- The check's number and its offset, 0 and 0 for an accepted stream; whether the root is an E/R group; and where the value stands.
pub record Walk : Type 0 where
  pub number : ℕ
  pub offset : ℕ
  pub group : Bool
  pub value : Value

unfoldable pub walked_of : Layout → List ℕ → Query → Walk
unfolding listing check_of is_group search_of
walked_of l s q = record {
  number = (check_of l s).number;
  offset = cond (eqb (check_of l s).number 0) 0 (check_of l s).value;
  group = is_group (listing l s).units;
  value = search_of l s q;
}

-- What is met is told of any stream, and of one that is not accepted the check's refusal.
abbrev pub Tells : Result Walked Broken → Walk → Type 0
Tells (Ok w) t = (t.number ≡ 0) × (w.group ≡ t.group) × (w.value ≡ t.value)
Tells (Err b) t =
    (number_of b.fault.refusal ≡ t.number) × (b.fault.offset ≡ t.offset) × (b.met.group ≡ t.group) × (b.met.value ≡ t.value)

-- A value that is told lies in n bytes.
abbrev pub WalkedIn : ℕ → Result Walked Broken → Type 0
WalkedIn n (Ok w) = Placed n w.value
WalkedIn n (Err b) = Placed n b.met.value
