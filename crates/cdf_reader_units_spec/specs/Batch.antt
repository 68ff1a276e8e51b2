-- Many units in a call: a run of NEXTs, as long as there is room.
use Rattle.std.specs.Prelude.{ℕ, zero, suc, not, cond, List, [], ◌∷◌, eqb, length}
use Rattle.cdf_unit_prefix.specs.Layout.{Layout}
use Rattle.cdf_unit_list.specs.declared.Ranked.{Ranked}
use Rattle.cdf_reader_spec.specs.Place.{ReaderPlace, is_empty, fits}
use Rattle.cdf_reader_spec.specs.Calls.{Reply, next_of}

-- The call's number and offset, the units that are handed out, and the new place.
pub record Batch : Type 0 where
  pub number : ℕ
  pub offset : ℕ
  pub units : List Ranked
  pub place : ReaderPlace

-- No unit: the number, its offset, and the place that was given.
abbrev pub no_units : ℕ → ℕ → ReaderPlace → Batch
no_units n at p = record { number = n; offset = at; units = []; place = p }

-- One unit more in front. Beside a unit the number is 0: what ended the run is told by the next call.
abbrev pub with_unit : Ranked → Batch → Batch
with_unit u b = record { number = 0; offset = 0; units = u ∷ b.units; place = b.place }

-- NEXTs, each given the place that the last one returned, as many as there is room for, or up to the first that hands out none.
unfoldable pub nexts : Layout → List ℕ → ReaderPlace → ℕ → Batch
unfolding next_of
nexts l s p zero = no_units 0 0 p
nexts l s p (suc room) =
    let r : Reply = next_of l s p in
    cond (eqb r.number 0) (with_unit r.handed (nexts l s r.place room)) (no_units r.number r.offset p)

-- The call: 11 for the empty place, 2 for one that does not fit, with room for none too; then the NEXTs.
unfoldable pub batch_of : Layout → List ℕ → ReaderPlace → ℕ → Batch
unfolding is_empty fits nexts
batch_of l s p room = cond (is_empty p) (no_units 11 0 p) (cond (not (fits l (length s) p)) (no_units 2 0 p) (nexts l s p room))
