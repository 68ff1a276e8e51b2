-- The last unit of a cursor's place as it is handed out.
use Rattle.std.proofs.Common.{ℕ, zero, suc, ◌≤◌, ◌≡◌, refl, ap, cond, arith, eqb}
use Rattle.cdf_unit_list.specs.declared.Open.{Open}
use Rattle.cdf_unit_list.specs.declared.Ranked.{Ranked}
use Rattle.cdf_reader_spec.specs.Ranking.{innermost_at, depth_at, handed_at}
use Rattle.cdf_reader_spec.specs.Calls.{Reply, give}
use Rattle.cdf_reader_spec.specs.Slots.{open_units}
use Rattle.cdf_reader_spec.proofs.Counted.{length_open}
use Rattle.cdf_reader_cursor.specs.Outcomes.{cursor_place}
use Rattle.cdf_reader_cursor.specs.declared.Cursor.{Cursor}

pub innermost : (count : ℕ) (top o1 o2 o3 : Open) (start : ℕ) → 1 ≤ count → innermost_at (open_units count top o1 o2 o3) start ≡ eqb top.start start
unfolding innermost_at open_units
innermost zero top o1 o2 o3 start some = absurd (omega arith)
innermost (suc k) top o1 o2 o3 start some = refl

-- Its depth, where a unit is open: by the innermost one's start.
pub depth_is : (c : Cursor) → 1 ≤ c.units.count → depth_at (cursor_place c) ≡ cond (eqb c.units.top.start c.last.start) c.units.count (suc c.units.count)
unfolding depth_at
depth_is c some =
    rw (
      innermost c.units.count c.units.top c.units.o1 c.units.o2 c.units.o3 c.last.start some,
      length_open c.units.count c.units.top c.units.o1 c.units.o2 c.units.o3,
    )

-- With its depth and rank it is what the place gives.
pub given_is : (c : Cursor) (h : Ranked) → c.last ≡ h.unit → depth_at (cursor_place c) ≡ h.depth → c.ranks.last ≡ h.rank →
    ◌≡◌ {A = Reply} (record { number = 0; offset = 0; handed = h; place = cursor_place c }) (give (cursor_place c))
unfolding handed_at
given_is c h last deep rank =
    ap (λ (x : Ranked). record { number = 0; offset = 0; handed = x; place = cursor_place c }) (same h last deep rank)
  where
    same : (h : Ranked) → c.last ≡ h.unit → depth_at (cursor_place c) ≡ h.depth → c.ranks.last ≡ h.rank → h ≡ handed_at (cursor_place c)
    same h last deep rank = rw (← last, ← deep, ← rank)
