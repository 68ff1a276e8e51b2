-- One unit's prefix (01, "One unit"), over the layout of an edition (02, l).
use Rattle.std.specs.Prelude.{ℕ, zero, suc, ◌+◌, ◌-◌, ◌*◌, Bool, true, false, ◌&&◌, List, get_or, leb, eqb}
use Rattle.cdf_unit_prefix.specs.declared.Edition.{Edition}
use Rattle.cdf_unit_prefix.specs.declared.Edition.TheVariants.{First, Second}

-- What the editions differ in: the second byte of the mark, how many bytes a length has, and the longest stream.
pub record Layout : Type 0 where
  pub mark : ℕ
  pub length_bytes : ℕ
  pub limit : ℕ

abbrev pub layout_of : Edition → Layout
layout_of First = record { mark = 0xf1; length_bytes = 2; limit = 65535 }
layout_of Second = record { mark = 0xf2; length_bytes = 4; limit = 16777215 }

-- Which edition bytes are of: the first, whatever they are. Shut, so that no proof above rests on which edition it is.
unfoldable pub edition_of : List ℕ → Edition
edition_of s = First

-- The layout that bytes are read in.
abbrev pub layout_for : List ℕ → Layout
layout_for s = layout_of (edition_of s)

-- The prefix: two bytes of mark, the length, one byte of action and one of id.
abbrev pub prefix_of : Layout → ℕ
prefix_of l = 4 + l.length_bytes

-- The number that k bytes from a position on write, high byte first.
unfoldable pub number_at : ℕ → ℕ → List ℕ → ℕ
number_at zero at s = 0
number_at (suc k) at s = number_at k at s * 256 + get_or s (at + k) 0

-- The mark stands at the front.
unfoldable pub marked : Layout → List ℕ → Bool
marked l s = eqb (get_or s 0 0) 0xcd && eqb (get_or s 1 0) l.mark

unfoldable pub length_at : Layout → List ℕ → ℕ
unfolding number_at
length_at l s = number_at l.length_bytes 2 s

unfoldable pub action_at : Layout → List ℕ → ℕ
action_at l s = get_or s (prefix_of l - 2) 0

unfoldable pub id_at : Layout → List ℕ → ℕ
id_at l s = get_or s (prefix_of l - 1) 0

-- Where n bytes are left for it, a nested unit's length (`false`) may be up to n; a root's (`true`) is n, within the limit.
unfoldable pub length_fits : Layout → Bool → ℕ → ℕ → Bool
length_fits l true n len = eqb len n && leb len l.limit
length_fits l false n len = leb len n
