-- A run of NEXTs, turn by turn: the units that are done stand in the list, and the rest of the batch is one from the place in hand.
use Rattle.std.proofs.Common.{ℕ, zero, suc, ◌+◌, ◌*◌, ◌-◌, ◌≤◌, ◌<◌, ◌≡◌, refl, sym, ap, ◌∙◌, Bool, true, false, cond, List, [], ◌∷◌, ◌++◌}
use Rattle.std.proofs.Common.{append_assoc, append-nil, zero-add, arith, eq-eqb, ne_eqb, eqb, length, drop, length-append, length-drop, take_at}
use Rattle.std.proofs.Common.{drop_at, drop-drop}
use borrow.Rule.Slice.PartMut.{put_mid}
use Rattle.std.specs.Prelude.{Result, Ok, Err}
use Rattle.cdf_refusal.specs.Numbers.{number_of}
use Rattle.cdf_refusal.specs.declared.Fault.{Fault}
use Rattle.cdf_refusal.specs.declared.Refusal.TheVariants.{NoUse}
use Rattle.cdf_refusal.specs.declared.Refusal.TheVariants as refusal
use Rattle.cdf_refusal.proofs.Apart.{refuses}
use Rattle.cdf_unit_table.proofs.Parts.{minus_plus}
use Rattle.cdf_unit_prefix.specs.Layout.{layout_for}
use Rattle.cdf_unit_data.specs.Standing.{name_row, row_bytes}
use Rattle.cdf_unit_list.specs.declared.Ranked.{Ranked}
use Rattle.cdf_reader_spec.specs.Place.{is_empty, fits}
use Rattle.cdf_reader_spec.specs.Calls.{Reply, next_of}
use Rattle.cdf_reader_spec.proofs.Counted.{length_open}
use Rattle.cdf_reader_runs.proofs.Replies.{next_fits}
use Rattle.cdf_reader_advance.specs.Advancing.{advanced_by}
use Rattle.cdf_reader.specs.View.{view, reply_of, reply_from}
use Rattle.cdf_reader.specs.declared.Place.{Place}
use Rattle.cdf_reader.specs.declared.Answer.{Answer}
use Rattle.cdf_reader.proofs.Proved.{proved as reader}
use Rattle.cdf_reader_units_spec.specs.Batch.{Batch, no_units, with_unit, batch_of}
use Rattle.cdf_reader_units_spec.proofs.Proved.{proved as batch}
use Rattle.cdf_reader_units.specs.Filling.{unit_numbers, units_numbers, list_after, room_of, batch_for, Told, told_of, Fills}

-- Where a run ends: what ends it is told where there is no unit.
abbrev stopped_at : ℕ → ℕ → ℕ → Place → Told
stopped_at number offset count place = record {
  number = cond (eqb count 0) number 0;
  offset = cond (eqb count 0) offset 0;
  count = count;
  place = place;
}

-- One more unit,
numbers_more : (rs : List Ranked) (r : Ranked) → units_numbers (rs ++ (r ∷ [])) ≡ units_numbers rs ++ unit_numbers r
unfolding units_numbers
numbers_more [] r = append-nil (unit_numbers r)
numbers_more (q ∷ rs) r =
    ap (λ ns. unit_numbers q ++ ns) (numbers_more rs r) ∙ sym (append_assoc (unit_numbers q) (units_numbers rs) (unit_numbers r))

-- each of seven numbers.
pub length_numbers : (rs : List Ranked) → length (units_numbers rs) ≡ 7 * length rs
unfolding units_numbers
length_numbers [] = refl
length_numbers (r ∷ rs) = omega (arith, length_numbers rs)

pub no_numbers : (list : List ℕ) → list_after [] list ≡ list
unfolding units_numbers
no_numbers list = refl

pub length_after : (rs : List Ranked) (list : List ℕ) → 7 * length rs ≤ length list → length (list_after rs list) ≡ length list
length_after rs list h = simp (length-append, length-drop) (omega (arith, length_numbers rs))

-- A unit written behind those that are there.
list_more : (rs : List Ranked) (r : Ranked) (list : List ℕ) → 7 * length rs + 7 ≤ length list → (new : List ℕ) → new ≡ unit_numbers r →
    put_mid (7 * length rs) (7 * length rs + 7 - 7 * length rs) (list_after rs list) new ≡ list_after (rs ++ (r ∷ [])) list
list_more rs r list room new is =
    let at = 7 * length rs in
    let front = units_numbers rs in
    let old = drop at list in
    let size : length front ≡ at = length_numbers rs in
    let more : 7 * length (rs ++ (r ∷ [])) ≡ at + 7 = simp length-append (omega arith) in
    let cut : drop (at + 7 - at) (drop at (front ++ old)) ≡ drop (at + 7) list =
    rw (minus_plus 7 at) (ap (drop 7) (drop_at front old at size) ∙ drop-drop 7 at list) in
    ap (λ ns. ns ++ (new ++ drop (at + 7 - at) (drop at (front ++ old)))) (take_at front old at size)
    ∙ ap (λ ns. front ++ (new ++ ns)) cut
    ∙ ap (λ ns. front ++ (ns ++ drop (at + 7) list)) is
    ∙ sym (append_assoc front (unit_numbers r) (drop (at + 7) list))
    ∙ ap (λ ns. ns ++ drop (at + 7) list) (sym (numbers_more rs r))
    ∙ ap (λ n. units_numbers (rs ++ (r ∷ [])) ++ drop n list) (sym more)

-- A batch with these units in front of its own.
abbrev over : List Ranked → Batch → Batch
over [] b = b
over (r ∷ rs) b = with_unit r (over rs b)

over_more : (rs : List Ranked) (r : Ranked) (b : Batch) → over rs (with_unit r b) ≡ over (rs ++ (r ∷ [])) b
over_more [] r b = refl
over_more (q ∷ rs) r b = ap (with_unit q) (over_more rs r b)

over_units : (rs : List Ranked) (b : Batch) → (over rs b).units ≡ rs ++ b.units
over_units [] b = refl
over_units (r ∷ rs) b = ap (λ us. r ∷ us) (over_units rs b)

over_place : (rs : List Ranked) (b : Batch) → (over rs b).place ≡ b.place
over_place [] b = refl
over_place (r ∷ rs) b = over_place rs b

-- Where it ends: the units are those in front, and the number is told if there is none.
over_number : (rs : List Ranked) (b : Batch) →
    ((over rs b).number ≡ cond (eqb (length rs) 0) b.number 0) × ((over rs b).offset ≡ cond (eqb (length rs) 0) b.offset 0)
over_number [] b = (refl, refl)
over_number (r ∷ rs) b = rw (ne_eqb (suc (length rs)) 0 (λ z. omega arith)) (refl, refl)

module _ (s : List ℕ) (p : Place) (list₀ : List ℕ) where
  pub record Running (list : List ℕ) (place : Place) (count : ℕ) : Type 0 where
    pub fit : fits (layout_for s) (length s) (view place) ≡ true
    pub done : List Ranked
    pub many : length done ≡ count
    pub left : ℕ
    pub room : room_of list₀ ≡ count + left
    pub all : batch_for s p list₀ ≡ over done (batch_of (layout_for s) s (view place) left)
    pub is : list ≡ list_after done list₀
    pub kept : count ≡ 0 → place ≡ p

  pub begun : fits (layout_for s) (length s) (view p) ≡ true → Running list₀ p 0
  begun f = record {
    fit = f;
    done = [];
    many = refl;
    left = room_of list₀;
    room = sym (zero-add (room_of list₀));
    all = refl;
    is = sym (no_numbers list₀);
    kept = λ z. refl;
  }

  module _ {list : List ℕ} {place : Place} {count : ℕ} (r : Running list place count) where
    -- There is room for one more unit.
    pub long : length list ≡ length list₀
    long = rw r.is (length_after r.done list₀ (omega (arith, r.many, r.room)))

    pub fits_more : count < room_of list₀ → 7 * count + 7 ≤ length list
    fits_more less = omega (arith, long)

    -- Where a run ends without a unit.
    pub ended : (number offset : ℕ) → batch_of (layout_for s) s (view place) r.left ≡ no_units number offset (view place) →
        Fills s p list₀ (stopped_at number offset count place) list
    ended number offset e =
        let all = r.all ∙ ap (over r.done) e in
        let end = over_number r.done (no_units number offset (view place)) in
        let units = ap (λ (b : Batch). b.units) all ∙ over_units r.done (no_units number offset (view place)) ∙ append-nil r.done in
        record {
          number = ap (λ n. cond (eqb n 0) number 0) (sym r.many) ∙ sym (ap (λ (b : Batch). b.number) all ∙ end.0);
          offset = ap (λ n. cond (eqb n 0) offset 0) (sym r.many) ∙ sym (ap (λ (b : Batch). b.offset) all ∙ end.1);
          count = sym r.many ∙ ap length (sym units);
          place = sym (ap (λ (b : Batch). b.place) all ∙ over_place r.done (no_units number offset (view place)));
          kept = r.kept;
          list = r.is ∙ ap (λ us. list_after us list₀) (sym units);
        }

    -- The room ends.
    pub full : room_of list₀ ≤ count → Fills s p list₀ (told_of p (Ok (record { count = room_of list₀; place = place }))) list
    full h =
        let none : r.left ≡ 0 = omega (arith, r.room) in
        let same : room_of list₀ ≡ count = omega (arith, r.room) in
        rw same (told (ended 0 0 (ap (batch_of (layout_for s) s (view place)) none ∙ batch.no_room (layout_for s) s (view place) r.fit)))
      where
        zero : (b : Bool) → ◌≡◌ {A = ℕ} 0 (cond b 0 0)
        zero true = refl
        zero false = refl

        told : Fills s p list₀ (stopped_at 0 0 count place) list →
            Fills s p list₀ (told_of p (Ok (record { count = count; place = place }))) list
        told w = record {
          number = zero (eqb count 0) ∙ w.number;
          offset = zero (eqb count 0) ∙ w.offset;
          count = w.count;
          place = w.place;
          kept = w.kept;
          list = w.list;
        }

    module _ (less : count < room_of list₀) (row : List ℕ) (by : row ≡ name_row) (q : Result Answer Fault)
        (is : reply_from place q ≡ advanced_by (row_bytes row) (layout_for s) s (view place)) where
      next : reply_from place q ≡ next_of (layout_for s) s (view place)
      next = is ∙ reader.advances row by (layout_for s) s (view place) r.fit

      -- As many turns are left as one and those after it.
      rest : (k : ℕ) × (r.left ≡ suc k)
      rest = go r.left refl
        where
          go : (n : ℕ) → r.left ≡ n → (k : ℕ) × (r.left ≡ suc k)
          go zero e = absurd (omega (arith, r.room))
          go (suc k) e = (k, e)

      -- A NEXT hands out no unit.
      module _ (f : Fault) (to : q ≡ Err f) where
        stops : Fills s p list₀ (stopped_at (number_of f.refusal) f.offset count place) list
        stops =
            let due = rw to at next in
            ended (number_of f.refusal) f.offset
            (ap (batch_of (layout_for s) s (view place)) rest.1
            ∙ batch.stops (layout_for s) s (view place) rest.0 (λ z. refuses f.refusal (ap (λ (x : Reply). x.number) due ∙ z))
            ∙ ap (λ (x : Reply). no_units x.number x.offset (view place)) (sym due))

        pub stops_first : count ≡ 0 → Fills s p list₀ (told_of p (Err f)) list
        stops_first z = rw same at stops
          where
            same : stopped_at (number_of f.refusal) f.offset count place ≡ told_of p (Err f)
            same = rw (z, r.kept z)

        pub stops_later : (count ≡ 0 → ⊥) → Fills s p list₀ (told_of p (Ok (record { count = count; place = place }))) list
        stops_later some = rw (ne_eqb count 0 some) at stops

      -- It hands out one, which is written.
      pub on : (a : Answer) → q ≡ Ok a → (new : List ℕ) → new ≡ unit_numbers a.handed →
          Running (put_mid (7 * count) (7 * count + 7 - 7 * count) list new) a.place (count + 1)
      on a to new written =
          let due : reply_of a ≡ next_of (layout_for s) s (view place) = rw to at next in
          record {
            fit = (rw (← due) at (next_fits (layout_for s) s (view place))) refl;
            done = r.done ++ (a.handed ∷ []);
            many = simp length-append (omega (arith, r.many));
            left = rest.0;
            room = omega (arith, r.room, rest.1);
            all =
                r.all
                ∙ ap (λ n. over r.done (batch_of (layout_for s) s (view place) n)) rest.1
                ∙ ap (over r.done) (batch.goes_on (layout_for s) s (view place) rest.0 (sym (ap (λ (x : Reply). x.number) due)))
                ∙ ap (λ (x : Reply). over r.done (with_unit x.handed (batch_of (layout_for s) s x.place rest.0))) (sym due)
                ∙ over_more r.done a.handed (batch_of (layout_for s) s (view a.place) rest.0);
            is =
                ap (λ ns. put_mid (7 * count) (7 * count + 7 - 7 * count) ns new) r.is
                ∙ ap (λ n. put_mid (7 * n) (7 * n + 7 - 7 * n) (list_after r.done list₀) new) (sym r.many)
                ∙ list_more r.done a.handed list₀ (omega (arith, fits_more less, long, r.many)) new written;
            kept = λ e. absurd (omega arith);
          }

  -- A place that the batch refuses.
  pub turned_down : (number : ℕ) → batch_for s p list₀ ≡ no_units number 0 (view p) → Fills s p list₀ (stopped_at number 0 0 p) list₀
  turned_down number e = record {
    number = sym (ap (λ (b : Batch). b.number) e);
    offset = sym (ap (λ (b : Batch). b.offset) e);
    count = sym (ap (λ (b : Batch). length b.units) e);
    place = sym (ap (λ (b : Batch). b.place) e);
    kept = λ z. refl;
    list = sym (ap (λ (b : Batch). list_after b.units list₀) e ∙ no_numbers list₀);
  }

  -- The count says whether it is the empty one.
  empty_is : is_empty (view p) ≡ eqb p.units.count 0
  unfolding is_empty
  empty_is = ap (λ n. eqb n 0) (length_open p.units.count p.units.top p.units.o1 p.units.o2 p.units.o3)

  pub none_open : p.units.count ≡ 0 → Fills s p list₀ (told_of p (Err (record { refusal = NoUse; offset = 0 }))) list₀
  none_open z = turned_down 11 (batch.empty (layout_for s) s (view p) (room_of list₀) (empty_is ∙ eq-eqb p.units.count 0 z))

  pub no_fit : (p.units.count ≡ 0 → ⊥) → fits (layout_for s) (length s) (view p) ≡ false →
      Fills s p list₀ (told_of p (Err (record { refusal = refusal.Place; offset = 0 }))) list₀
  no_fit some f = turned_down 2 (batch.unfit (layout_for s) s (view p) (room_of list₀) (empty_is ∙ ne_eqb p.units.count 0 some) f)
