-- The rules 3 to 6 for the unit at the front of s, which is all that the enclosing unit has left (01, "The numbers given
-- back").
use Rattle.std.specs.Prelude.{Bool, cond, not, List, ℕ, length, ltb, Result, Ok, Err}
use Rattle.cdf_refusal.specs.declared.Refusal.{Refusal}
use Rattle.cdf_refusal.specs.Numbers.{number_of}
use Rattle.cdf_unit_table.specs.Ids.{known}
use Rattle.cdf_unit_prefix.specs.Layout.{Layout, prefix_of, marked, length_at, action_at, id_at, length_fits}
use Rattle.cdf_unit_prefix.specs.declared.Header.{Header}

-- The number of the first of the rules 3 to 6 that is broken, or what the prefix says: id, action and length.
pub data Head : Type 0 where
  Stop : ℕ → Head
  Prefix : ℕ → ℕ → ℕ → Head

-- 3: fewer bytes left than a prefix has. 4: wrong mark. 5: a length that is too short or does not fit. 6: unknown id.
unfoldable pub head_of : Layout → Bool → List ℕ → Head
unfolding marked length_at length_fits known id_at action_at
head_of l root s =
    cond (ltb (length s) (prefix_of l)) (Stop 3)
    (cond (not (marked l s)) (Stop 4)
    (cond (ltb (length_at l s) (prefix_of l)) (Stop 5)
    (cond (not (length_fits l root (length s) (length_at l s))) (Stop 5)
    (cond (not (known (id_at l s))) (Stop 6) (Prefix (id_at l s) (action_at l s) (length_at l s))))))

-- What an answer of the code says.
abbrev pub headed : Result Header Refusal → Head
headed (Ok h) = Prefix h.id h.action h.length
headed (Err r) = Stop (number_of r)
