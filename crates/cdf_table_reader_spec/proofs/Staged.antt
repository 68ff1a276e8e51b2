-- The table's judge is a judge by an admission: the look into any list.
use Rattle.std.proofs.Common.{ℕ, ◌≡◌, refl, Bool, List}
use Rattle.cdf_unit_prefix.specs.Layout.{Layout}
use Rattle.cdf_unit_data.specs.Data.{name_bytes}
use Rattle.cdf_unit_judge.specs.Judge.{judge_by}
use Rattle.cdf_unit_judge.specs.Keeping.{Keeps}
use Rattle.cdf_unit_judge.proofs.Keeping.{judged_lies}
use Rattle.cdf_table_reader_spec.specs.Table.{looked}
use Rattle.cdf_table_reader_spec.specs.Calls.{table_judge}

pub table_is : (table : List ℕ) (l : Layout) (root : Bool) (state : ℕ) (s : List ℕ) →
    judge_by name_bytes l root (looked table state) s ≡ table_judge table l root state s
unfolding table_judge
table_is table l root state s = refl

-- So what it finds lies in the bytes judged.
pub table_keeps : (table : List ℕ) (l : Layout) (root : Bool) → Keeps (table_judge table l root)
unfolding table_judge
table_keeps table l root state s = judged_lies name_bytes l root (looked table state) s
