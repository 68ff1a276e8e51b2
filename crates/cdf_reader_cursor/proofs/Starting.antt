-- What a start answers by what the root is judged to be, case by case. By another table than the grammar's a root may be a unit that admits no
-- others.
use Rattle.std.proofs.Common.{ℕ, ◌+◌, ◌≡◌, true, false, [], arith}
use Rattle.cdf_unit_table.specs.States.{nothing}
use Rattle.cdf_unit_table.proofs.Rows.{opens_by, leaf_by}
use Rattle.cdf_unit_judge.specs.Judge.{Judged, Fault, Found}
use Rattle.cdf_unit_list.specs.Stack.{entered}
use Rattle.cdf_unit_list.specs.declared.Unit.{Unit}
use Rattle.cdf_unit_list.specs.declared.Open.{Open}
use Rattle.cdf_unit_list.proofs.Entering.{unit_from}
use Rattle.cdf_unit_list.proofs.Stepping.{faults, enters, opened_parent, opened_leaf}
use Rattle.cdf_reader_spec.specs.Calls.{Reply, refuse, empty_place, stepped}
use Rattle.cdf_reader_spec.specs.Slots.{no_open, no_ranks, around, open_units, open_ranks, place_of}

abbrev pub start_of : Judged → Reply
start_of judged = stepped empty_place (entered 0 (λ state. []) judged)

pub start_fault : {judged : Judged} {n k : ℕ} → judged ≡ Fault n k → start_of judged ≡ refuse n k empty_place
unfolding stepped
start_fault {judged} {n} {k} e =
    let here : 0 + k ≡ k = omega arith in
    rw (e, faults 0 (λ state. []) n k, here)

module _ {judged : Judged} {id action own len state : ℕ} (e : judged ≡ Found id action own len state) (first : ℕ) (is : first ≡ nothing id) where
  abbrev Root : Unit
  Root = record { id = id; action = action; start = 0; own = own; end = len }

  pub start_opens : (first ≡ 0 → ⊥) →
      let top : Open = record { state = first; start = 0; end = len } in
      start_of judged
      ≡ record {
        number = 0;
        offset = 0;
        handed = record { unit = Root; depth = 1; rank = 0 };
        place = place_of own 1 top no_open no_open no_open Root true no_ranks;
      }
  unfolding stepped open_units around open_ranks
  start_opens some =
      let opening = opens_by id first is some in
      let w = opened_parent (unit_from 0 id action own len) [] opening in
      let o : 0 + own ≡ own = omega arith in
      let n : 0 + len ≡ len = omega arith in
      rw (e, enters 0 (λ state. []) id action own len state, w.0, w.1, opening, o, n, is)

  pub start_leaf : first ≡ 0 →
      start_of judged
      ≡ record {
        number = 0;
        offset = 0;
        handed = record { unit = Root; depth = 0; rank = 0 };
        place = place_of len 0 no_open no_open no_open no_open Root false no_ranks;
      }
  unfolding stepped open_units around open_ranks
  start_leaf none =
      let shut = leaf_by id first is none in
      let w = opened_leaf (unit_from 0 id action own len) [] shut in
      let o : 0 + own ≡ own = omega arith in
      let n : 0 + len ≡ len = omega arith in
      rw (e, enters 0 (λ state. []) id action own len state, w.0, w.1, shut, o, n)
