-- Where a member of a class stands among those of all classes.
use Rattle.std.proofs.Common.{◌≡◌, ℕ, zero, suc, inl, inr, ◌+◌, ◌-◌, ◌<◌, List, [], ◌∷◌, Some, length, map, take, slice_get, flat_map, refl, ap, ◌∙◌, arith, length-append}
use Rattle.std.specs.Option.{option_map}
use Rattle.std.proofs.lemmas.Bool.{cases_lt}
use Rattle.std.proofs.lemmas.Option.{slice_get-map}
use Rattle.fp_model.specs.declared.class.Class.{Class}
use Rattle.fp_cells.proofs.EntityLemmas.{length-map, slice_get-back, slice_get-front}

-- there is one at each place
pub there : {A : Type 0} (xs : List A) (k : ℕ) → k < length xs → (x : A) × (slice_get xs k ≡ Some x)
there [] k lt = absurd (omega (arith, lt))
there (x ∷ xs) zero lt = (x, refl)
there (x ∷ xs) (suc k) lt = there xs k (omega (arith, lt))

module _ {M : Type 0} (members : Class → List M) (text : Class → M → List ℕ) where
  abbrev pub texts : List Class → List (List ℕ)
  texts classes = flat_map (λ c. map (text c) (members c)) classes

  -- the member of a number is the `place`-th of the class `owner`
  pub record Located (classes : List Class) (id : ℕ) : Type 0 where
    pub owner : ℕ
    pub place : ℕ
    pub class : Class
    pub member : M
    pub class_at : slice_get classes owner ≡ Some class
    pub member_at : slice_get (members class) place ≡ Some member
    pub number : id ≡ length (flat_map members (take owner classes)) + place
    pub text_at : slice_get (texts classes) id ≡ Some (text class member)

  in_first : (c : Class) (classes : List Class) (id : ℕ) → id < length (members c) → Located (c ∷ classes) id
  in_first c classes id lt =
      let m = there (members c) id lt in
      record {
        owner = zero;
        place = id;
        class = c;
        member = m.0;
        class_at = refl;
        member_at = m.1;
        number = omega arith;
        text_at =
            slice_get-front (map (text c) (members c)) (texts classes) id (omega (arith, lt, length-map (text c) (members c)))
            ∙ slice_get-map (text c) (members c) id
            ∙ ap (option_map (text c)) m.1;
      }

  in_rest : (c : Class) (classes : List Class) (id k : ℕ) → id ≡ length (members c) + k → Located classes k → Located (c ∷ classes) id
  in_rest c classes id k is at = record {
    owner = suc at.owner;
    place = at.place;
    class = at.class;
    member = at.member;
    class_at = at.class_at;
    member_at = at.member_at;
    number = omega (arith, is, at.number, length-append (members c) (flat_map members (take at.owner classes)));
    text_at = slice_get-back (map (text c) (members c)) (texts classes) id k (omega (arith, is, length-map (text c) (members c))) ∙ at.text_at;
  }

  pub located : (classes : List Class) (id : ℕ) → id < length (flat_map members classes) → Located classes id
  located [] id lt = absurd (omega (arith, lt))
  located (c ∷ classes) id lt = elim (cases_lt id (length (members c))) [
    | inl here ↦ in_first c classes id here
    | inr later ↦
        let k = id - length (members c) in
        let split : id ≡ length (members c) + k = omega (arith, later) in
        in_rest c classes id k split (located classes k (omega (arith, lt, later, length-append (members c) (flat_map members classes))))
  ]
