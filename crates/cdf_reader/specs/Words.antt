-- Places and structs whose numbers a field can hold.
use Rattle.std.specs.Prelude.{ℕ, ◌<◌, List, [], ◌∷◌}
use Rattle.cdf_unit_list.specs.declared.Unit.{Unit}
use Rattle.cdf_unit_list.specs.declared.Open.{Open}
use Rattle.cdf_reader_spec.specs.Place.{ReaderPlace}
use Rattle.cdf_reader_spec.specs.declared.Ranks.{Ranks}
use Rattle.cdf_reader.specs.declared.Place.{Place}

-- Numbers that a field of the struct can hold: below 2^64.
abbrev pub Word : ℕ → Type 0
Word n = n < 18446744073709551616

abbrev pub UnitWords : Unit → Type 0
UnitWords u = Word u.id × Word u.action × Word u.start × Word u.own × Word u.end

abbrev pub OpenWords : Open → Type 0
OpenWords o = Word o.state × Word o.start × Word o.end

abbrev pub RanksWords : Ranks → Type 0
RanksWords k = Word k.top × Word k.r1 × Word k.r2 × Word k.r3 × Word k.last

-- Of each of a list.
abbrev pub AllWords : {A : Type 0} → (A → Type 0) → List A → Type 0
AllWords Words [] = record {}
AllWords Words (x ∷ xs) = Words x × AllWords Words xs

pub record PlaceWords (p : ReaderPlace) : Type 0 where
  pub position : Word p.position
  pub units : AllWords OpenWords p.units
  pub last : UnitWords p.last
  pub ranks : AllWords Word p.ranks
  pub last_rank : Word p.last_rank

pub record StructWords (q : Place) : Type 0 where
  pub position : Word q.position
  pub count : Word q.units.count
  pub top : OpenWords q.units.top
  pub o1 : OpenWords q.units.o1
  pub o2 : OpenWords q.units.o2
  pub o3 : OpenWords q.units.o3
  pub last : UnitWords q.last
  pub ranks : RanksWords q.ranks
