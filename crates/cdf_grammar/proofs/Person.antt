-- The tree of the sample K2 is one of the published grammar.
use Rattle.std.proofs.Common.{refl, [], ◌∷◌, inl, inr, arith}
use Rattle.cdf_unit_table.specs.Ids.{template, temporary_key, field}
use Rattle.cdf_grammar.specs.Content.{end, piece}
use Rattle.cdf_grammar.specs.Trees.{ids}
use Rattle.cdf_grammar.specs.Published.{production_of, Name, InGrammar}
use Rattle.cdf_grammar.specs.Example.{person}

-- PERSON and SURNAME, with their counts
person_name : Name (6 ∷ 0x50 ∷ 0x45 ∷ 0x52 ∷ 0x53 ∷ 0x4f ∷ 0x4e ∷ [])
person_name = record {
  first = 0x50;
  others = 0x45 ∷ 0x52 ∷ 0x53 ∷ 0x4f ∷ 0x4e ∷ [];
  spelled = refl;
  short = omega arith;
  begins = omega arith;
  goes_on = (inl (omega arith), (inl (omega arith), (inl (omega arith), (inl (omega arith), (inl (omega arith), record {})))));
}

surname : Name (7 ∷ 0x53 ∷ 0x55 ∷ 0x52 ∷ 0x4e ∷ 0x41 ∷ 0x4d ∷ 0x45 ∷ [])
surname = record {
  first = 0x53;
  others = 0x55 ∷ 0x52 ∷ 0x4e ∷ 0x41 ∷ 0x4d ∷ 0x45 ∷ [];
  spelled = refl;
  short = omega arith;
  begins = omega arith;
  goes_on = (
    inl (omega arith),
    (inl (omega arith), (inl (omega arith), (inl (omega arith), (inl (omega arith), (inl (omega arith), record {}))))),
  );
}

pub person_grammatical : InGrammar person
unfolding ids production_of
person_grammatical =
    record {
      root = inr (inl refl);
      conforms = (
        record { acts = inl refl; says = refl; holds = (template ∷ [], [], refl, inl refl, end refl) },
        (
          record {
            acts = inl refl;
            says = person_name;
            holds = (
              temporary_key ∷ [],
              field ∷ [],
              refl,
              inl refl,
              piece (field ∷ []) [] refl refl (end refl),
            );
          },
          (
            record { acts = inl refl; says = refl; holds = refl },
            record {},
            (record { acts = inl refl; says = (_, 0xc3 ∷ 0x85 ∷ 0x73 ∷ [], refl, surname, omega arith); holds = refl }, record {}, record {}),
          ),
          record {},
        ),
        record {},
      );
    }
