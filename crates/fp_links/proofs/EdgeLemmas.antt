-- What a write of one edge or of one place's ends changes in the rings.
use Rattle.std.proofs.Common.{◌≡◌, ◌<◌, ◌≤◌, ◌+◌, ◌-◌, nat_lt, ℕ, true, false, List, [], ◌∷◌, ◌++◌, length, get_or, set, refl, sym, ap, ◌∙◌, inl, inr, arith, cond}
use Rattle.std.proofs.lemmas.Bool.{cases_eq, cases_lt, lt-ltb, le-ltb}
use Rattle.std.proofs.lemmas.List.{length-set, get_or-set_same, get_or-set_other, get_or_append_left, get_or_push, get_or_past, length_push, get_or_default}
use Rattle.fp_links.specs.declared.edge.Edge.{Edge}
use Rattle.fp_links.specs.declared.edge.Ends.{Ends}
use Rattle.fp_links.specs.Rings.{put}
use Rattle.fp_links.specs.Fields.{next_at, previous_at, place_at, task_at, behind_at, no_edge, no_ends, none, ring}
use Rattle.fp_links.proofs.RingLemmas.{put-here, put-other}

-- nothing changes where what is put stands there already
pub put-same : {A : Type 0} (f : ℕ → A) (x : ℕ) (v : A) (y : ℕ) → f x ≡ v → put f x v y ≡ f y
put-same f x v y h = elim (cases_eq y x) [ inl same ↦ put-here f x v y same ∙ sym h ∙ ap f (sym same) | inr ne ↦ put-other f x v y ne ]

-- ---- an edge is written

at-set : {A : Type 0} (edges : List Edge) (i : ℕ) (e : Edge) (field : Edge → A) (x : ℕ) → i < length edges → field (get_or (set edges i e) x no_edge) ≡ put (λ y. field (get_or edges y no_edge)) i (field e) x
at-set edges i e field x lt = elim (cases_eq x i) [
  | inl same ↦ ap (λ y. field (get_or (set edges i e) y no_edge)) same ∙ ap field (get_or-set_same edges i e no_edge lt) ∙ sym (put-here (λ y. field (get_or edges y no_edge)) i (field e) x same)
  | inr ne ↦ ap field (get_or-set_other edges i x e no_edge ne) ∙ sym (put-other (λ y. field (get_or edges y no_edge)) i (field e) x ne)
]

pub place-set : (edges : List Edge) (i : ℕ) (e : Edge) (x : ℕ) → i < length edges → place_at (set edges i e) x ≡ put (place_at edges) i e.place x
place-set edges i e x lt = at-set edges i e (λ (f : Edge). f.place) x lt

pub task-set : (edges : List Edge) (i : ℕ) (e : Edge) (x : ℕ) → i < length edges → task_at (set edges i e) x ≡ put (task_at edges) i e.task x
task-set edges i e x lt = at-set edges i e (λ (f : Edge). f.task) x lt

pub behind-set : (edges : List Edge) (i : ℕ) (e : Edge) (x : ℕ) → i < length edges → behind_at (set edges i e) x ≡ put (behind_at edges) i e.behind x
behind-set edges i e x lt = at-set edges i e (λ (f : Edge). f.behind) x lt

-- next and previous are one of two fields, of edges and of ends
abbrev either_at : (Edge → ℕ) → (Ends → ℕ) → List Edge → List Ends → ℕ → ℕ
either_at f g edges places x = cond (nat_lt x (length edges)) (f (get_or edges x no_edge)) (cond (nat_lt none x) 0 (g (get_or places (none - x) no_ends)))

either-set : (f : Edge → ℕ) (g : Ends → ℕ) (edges : List Edge) (places : List Ends) (i : ℕ) (e : Edge) (x : ℕ) → i < length edges →
    either_at f g (set edges i e) places x ≡ put (either_at f g edges places) i (f e) x
either-set f g edges places i e x lt =
    let long = length-set edges i e in
    elim (cases_eq x i) [
      | inl same ↦
          (let inside : nat_lt x (length edges) ≡ true = lt-ltb x (length edges) (omega arith) in
          let at : f (get_or (set edges i e) x no_edge) ≡ f e = ap (λ y. f (get_or (set edges i e) y no_edge)) same ∙ ap f (get_or-set_same edges i e no_edge lt) in
          let here : either_at f g (set edges i e) places x ≡ f e = rw (long, inside) at in
          here ∙ sym (put-here (either_at f g edges places) i (f e) x same))
      | inr ne ↦
          (let at = get_or-set_other edges i x e no_edge ne in
          let same : either_at f g (set edges i e) places x ≡ either_at f g edges places x = rw (long, at) refl in
          same ∙ sym (put-other (either_at f g edges places) i (f e) x ne))
    ]

either-set_ends : (f : Edge → ℕ) (g : Ends → ℕ) (edges : List Edge) (places : List Ends) (i : ℕ) (r : Ends) (x : ℕ) → length edges ≤ i → i ≤ none → none - i < length places →
    either_at f g edges (set places (none - i) r) x ≡ put (either_at f g edges places) i (g r) x
either-set_ends f g edges places i r x past known lt =
    elim (cases_eq x i) [
      | inl same ↦
          (let out : nat_lt x (length edges) ≡ false = le-ltb x (length edges) (omega arith) in
          let low : nat_lt none x ≡ false = le-ltb none x (omega arith) in
          let at : g (get_or (set places (none - i) r) (none - x) no_ends) ≡ g r = ap (λ y. g (get_or (set places (none - i) r) (none - y) no_ends)) same ∙ ap g (get_or-set_same places (none - i) r no_ends lt) in
          let here : either_at f g edges (set places (none - i) r) x ≡ g r = rw (out, low) at in
          here ∙ sym (put-here (either_at f g edges places) i (g r) x same))
      | inr ne ↦
          elim (cases_lt none x) [
            | inl high ↦
                (let holds : nat_lt none x ≡ true = lt-ltb none x high in
                let same : either_at f g edges (set places (none - i) r) x ≡ either_at f g edges places x = rw holds refl in
                same ∙ sym (put-other (either_at f g edges places) i (g r) x ne))
            | inr low ↦
                (let apart : none - x ≡ none - i → ⊥ = λ h. ne (omega arith) in
                let at = get_or-set_other places (none - i) (none - x) r no_ends apart in
                let same : either_at f g edges (set places (none - i) r) x ≡ either_at f g edges places x = rw at refl in
                same ∙ sym (put-other (either_at f g edges places) i (g r) x ne))
          ]
    ]

pub next-set : (edges : List Edge) (places : List Ends) (i : ℕ) (e : Edge) (x : ℕ) → i < length edges → next_at (set edges i e) places x ≡ put (next_at edges places) i e.next x
next-set edges places i e x lt = either-set (λ (a : Edge). a.next) (λ (a : Ends). a.next) edges places i e x lt

pub previous-set : (edges : List Edge) (places : List Ends) (i : ℕ) (e : Edge) (x : ℕ) → i < length edges → previous_at (set edges i e) places x ≡ put (previous_at edges places) i e.previous x
previous-set edges places i e x lt = either-set (λ (a : Edge). a.previous) (λ (a : Ends). a.previous) edges places i e x lt

pub next-set_ends : (edges : List Edge) (places : List Ends) (i : ℕ) (r : Ends) (x : ℕ) → length edges ≤ i → i ≤ none → none - i < length places → next_at edges (set places (none - i) r) x ≡ put (next_at edges places) i r.next x
next-set_ends edges places i r x past known lt = either-set_ends (λ (a : Edge). a.next) (λ (a : Ends). a.next) edges places i r x past known lt

pub previous-set_ends : (edges : List Edge) (places : List Ends) (i : ℕ) (r : Ends) (x : ℕ) → length edges ≤ i → i ≤ none → none - i < length places → previous_at edges (set places (none - i) r) x ≡ put (previous_at edges places) i r.previous x
previous-set_ends edges places i r x past known lt = either-set_ends (λ (a : Edge). a.previous) (λ (a : Ends). a.previous) edges places i r x past known lt

-- ---- an edge or a place is added

at-push : {A : Type 0} (edges : List Edge) (e : Edge) (field : Edge → A) (x : ℕ) → field (get_or (edges ++ e ∷ []) x no_edge) ≡ put (λ y. field (get_or edges y no_edge)) (length edges) (field e) x
at-push edges e field x = elim (cases_eq x (length edges)) [
  | inl same ↦ ap field (get_or_push edges e no_edge x (sym same)) ∙ sym (put-here (λ y. field (get_or edges y no_edge)) (length edges) (field e) x same)
  | inr ne ↦
      (let at : get_or (edges ++ e ∷ []) x no_edge ≡ get_or edges x no_edge = elim (cases_lt x (length edges)) [
        | inl lt ↦ get_or_append_left edges (e ∷ []) no_edge x lt
        | inr le ↦ get_or_past (edges ++ e ∷ []) x no_edge (omega (arith, length_push edges e)) ∙ sym (get_or_past edges x no_edge le)
      ] in
      ap field at ∙ sym (put-other (λ y. field (get_or edges y no_edge)) (length edges) (field e) x ne))
]

pub place-push : (edges : List Edge) (e : Edge) (x : ℕ) → place_at (edges ++ e ∷ []) x ≡ put (place_at edges) (length edges) e.place x
place-push edges e x = at-push edges e (λ (f : Edge). f.place) x

pub task-push : (edges : List Edge) (e : Edge) (x : ℕ) → task_at (edges ++ e ∷ []) x ≡ put (task_at edges) (length edges) e.task x
task-push edges e x = at-push edges e (λ (f : Edge). f.task) x

pub behind-push : (edges : List Edge) (e : Edge) (x : ℕ) → behind_at (edges ++ e ∷ []) x ≡ put (behind_at edges) (length edges) e.behind x
behind-push edges e x = at-push edges e (λ (f : Edge). f.behind) x

either-push : (f : Edge → ℕ) (g : Ends → ℕ) (edges : List Edge) (places : List Ends) (e : Edge) (x : ℕ) →
    either_at f g (edges ++ e ∷ []) places x ≡ put (either_at f g edges places) (length edges) (f e) x
either-push f g edges places e x =
    let long = length_push edges e in
    elim (cases_eq x (length edges)) [
      | inl same ↦
          (let inside : nat_lt x (length (edges ++ e ∷ [])) ≡ true = lt-ltb x (length (edges ++ e ∷ [])) (omega arith) in
          let at : f (get_or (edges ++ e ∷ []) x no_edge) ≡ f e = ap f (get_or_push edges e no_edge x (sym same)) in
          let here : either_at f g (edges ++ e ∷ []) places x ≡ f e = rw inside at in
          here ∙ sym (put-here (either_at f g edges places) (length edges) (f e) x same))
      | inr ne ↦
          elim (cases_lt x (length edges)) [
            | inl lt ↦
                (let now : nat_lt x (length (edges ++ e ∷ [])) ≡ true = lt-ltb x (length (edges ++ e ∷ [])) (omega arith) in
                let before : nat_lt x (length edges) ≡ true = lt-ltb x (length edges) lt in
                let at = get_or_append_left edges (e ∷ []) no_edge x lt in
                let same : either_at f g (edges ++ e ∷ []) places x ≡ either_at f g edges places x = rw (now, before, at) refl in
                same ∙ sym (put-other (either_at f g edges places) (length edges) (f e) x ne))
            | inr le ↦
                (let now : nat_lt x (length (edges ++ e ∷ [])) ≡ false = le-ltb x (length (edges ++ e ∷ [])) (omega arith) in
                let before : nat_lt x (length edges) ≡ false = le-ltb x (length edges) le in
                let same : either_at f g (edges ++ e ∷ []) places x ≡ either_at f g edges places x = rw (now, before) refl in
                same ∙ sym (put-other (either_at f g edges places) (length edges) (f e) x ne))
          ]
    ]

either-push_ends : (f : Edge → ℕ) (g : Ends → ℕ) (edges : List Edge) (places : List Ends) (r : Ends) (x : ℕ) → length edges + length places < none →
    either_at f g edges (places ++ r ∷ []) x ≡ put (either_at f g edges places) (ring (length places)) (g r) x
either-push_ends f g edges places r x room =
    elim (cases_eq x (ring (length places))) [
      | inl same ↦
          (let out : nat_lt x (length edges) ≡ false = le-ltb x (length edges) (omega arith) in
          let low : nat_lt none x ≡ false = le-ltb none x (omega arith) in
          let at : g (get_or (places ++ r ∷ []) (none - x) no_ends) ≡ g r = ap g (get_or_push places r no_ends (none - x) (omega arith)) in
          let here : either_at f g edges (places ++ r ∷ []) x ≡ g r = rw (out, low) at in
          here ∙ sym (put-here (either_at f g edges places) (ring (length places)) (g r) x same))
      | inr ne ↦
          elim (cases_lt none x) [
            | inl high ↦
                (let holds : nat_lt none x ≡ true = lt-ltb none x high in
                let same : either_at f g edges (places ++ r ∷ []) x ≡ either_at f g edges places x = rw holds refl in
                same ∙ sym (put-other (either_at f g edges places) (ring (length places)) (g r) x ne))
            | inr low ↦
                (let at : get_or (places ++ r ∷ []) (none - x) no_ends ≡ get_or places (none - x) no_ends = elim (cases_lt (none - x) (length places)) [
                  | inl lt ↦ get_or_append_left places (r ∷ []) no_ends (none - x) lt
                  | inr le ↦ get_or_past (places ++ r ∷ []) (none - x) no_ends (omega (arith, length_push places r)) ∙ sym (get_or_past places (none - x) no_ends le)
                ] in
                let same : either_at f g edges (places ++ r ∷ []) x ≡ either_at f g edges places x = rw at refl in
                same ∙ sym (put-other (either_at f g edges places) (ring (length places)) (g r) x ne))
          ]
    ]

pub next-push : (edges : List Edge) (places : List Ends) (e : Edge) (x : ℕ) → next_at (edges ++ e ∷ []) places x ≡ put (next_at edges places) (length edges) e.next x
next-push edges places e x = either-push (λ (a : Edge). a.next) (λ (a : Ends). a.next) edges places e x

pub previous-push : (edges : List Edge) (places : List Ends) (e : Edge) (x : ℕ) → previous_at (edges ++ e ∷ []) places x ≡ put (previous_at edges places) (length edges) e.previous x
previous-push edges places e x = either-push (λ (a : Edge). a.previous) (λ (a : Ends). a.previous) edges places e x

pub next-push_ends : (edges : List Edge) (places : List Ends) (r : Ends) (x : ℕ) → length edges + length places < none → next_at edges (places ++ r ∷ []) x ≡ put (next_at edges places) (ring (length places)) r.next x
next-push_ends edges places r x room = either-push_ends (λ (a : Edge). a.next) (λ (a : Ends). a.next) edges places r x room

pub previous-push_ends : (edges : List Edge) (places : List Ends) (r : Ends) (x : ℕ) → length edges + length places < none → previous_at edges (places ++ r ∷ []) x ≡ put (previous_at edges places) (ring (length places)) r.previous x
previous-push_ends edges places r x room = either-push_ends (λ (a : Edge). a.previous) (λ (a : Ends). a.previous) edges places r x room

-- ---- a write that leaves the ring alone

either-kept : (f : Edge → ℕ) (g : Ends → ℕ) (edges : List Edge) (places : List Ends) (i : ℕ) (e d : Edge) (x : ℕ) → i < length edges → f e ≡ f (get_or edges i d) →
    either_at f g (set edges i e) places x ≡ either_at f g edges places x
either-kept f g edges places i e d x lt same =
    let inside : nat_lt i (length edges) ≡ true = lt-ltb i (length edges) lt in
    let at : f (get_or edges i d) ≡ f (get_or edges i no_edge) = ap f (get_or_default edges i d no_edge lt) in
    let there : either_at f g edges places i ≡ f (get_or edges i no_edge) = rw inside refl in
    either-set f g edges places i e x lt ∙ put-same (either_at f g edges places) i (f e) x (there ∙ sym at ∙ sym same)

pub next-kept : (edges : List Edge) (places : List Ends) (i : ℕ) (e d : Edge) (x : ℕ) → i < length edges → e.next ≡ (get_or edges i d).next → next_at (set edges i e) places x ≡ next_at edges places x
next-kept edges places i e d x lt same = either-kept (λ (a : Edge). a.next) (λ (a : Ends). a.next) edges places i e d x lt same

pub previous-kept : (edges : List Edge) (places : List Ends) (i : ℕ) (e d : Edge) (x : ℕ) → i < length edges → e.previous ≡ (get_or edges i d).previous → previous_at (set edges i e) places x ≡ previous_at edges places x
previous-kept edges places i e d x lt same = either-kept (λ (a : Edge). a.previous) (λ (a : Ends). a.previous) edges places i e d x lt same

-- what an edge says of itself
pub next-is : (edges : List Edge) (places : List Ends) (i : ℕ) (d : Edge) → i < length edges → (get_or edges i d).next ≡ next_at edges places i
next-is edges places i d lt =
    let inside : nat_lt i (length edges) ≡ true = lt-ltb i (length edges) lt in
    let at = ap (λ (a : Edge). a.next) (get_or_default edges i d no_edge lt) in rw inside at

pub previous-is : (edges : List Edge) (places : List Ends) (i : ℕ) (d : Edge) → i < length edges → (get_or edges i d).previous ≡ previous_at edges places i
previous-is edges places i d lt =
    let inside : nat_lt i (length edges) ≡ true = lt-ltb i (length edges) lt in
    let at = ap (λ (a : Edge). a.previous) (get_or_default edges i d no_edge lt) in rw inside at

pub put-alike : (f : ℕ → ℕ) (x y v w z : ℕ) → x ≡ y → v ≡ w → put f x v z ≡ put f y w z
put-alike f x y v w z a b = ap (λ t. put f t v z) a ∙ ap (λ t. put f y t z) b
