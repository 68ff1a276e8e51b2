-- Places and structs whose numbers a field can hold.
use Rattle.std.specs.Prelude.{ℕ, ◌<◌, List, [], ◌∷◌}
use Rattle.cdf_builder_spec.specs.Place.{BuilderPlace}
use Rattle.cdf_builder_spec.specs.declared.Begun.{Begun}
use Rattle.cdf_builder.specs.declared.Builder.{Builder}

-- Numbers that a field of the struct can hold: below 2^64.
abbrev pub Word : ℕ → Type 0
Word n = n < 18446744073709551616

abbrev pub BegunWords : Begun → Type 0
BegunWords o = Word o.state × Word o.start

abbrev pub AllWords : List Begun → Type 0
AllWords [] = record {}
AllWords (o ∷ os) = BegunWords o × AllWords os

pub record PlaceWords (p : BuilderPlace) : Type 0 where
  pub written : Word p.written
  pub units : AllWords p.units

pub record StructWords (q : Builder) : Type 0 where
  pub written : Word q.written
  pub count : Word q.units.count
  pub top : BegunWords q.units.top
  pub o1 : BegunWords q.units.o1
  pub o2 : BegunWords q.units.o2
  pub o3 : BegunWords q.units.o3
