-- References that are told as the same are one.
use Rattle.std.proofs.Common.{◌≡◌, ℕ, ◌==◌, Bool, true, false, ◌&&◌, refl, ap, ◌∙◌}
use Rattle.std.proofs.lemmas.Bool.{eqb-true}
use Rattle.fp_facts.specs.contracts.reference.CallFormPartialEq.TheImpl.{ghosts as forms}
use Rattle.fp_facts.specs.declared.reference.CallForm.{CallForm}
use Rattle.fp_facts.specs.declared.reference.CallForm.TheVariants as form
use Rattle.fp_facts.specs.declared.reference.Reference.{Reference}
use Rattle.fp_facts.specs.References.{same_reference}

pub and-true : (a b : Bool) → (a && b) ≡ true → (a ≡ true) × (b ≡ true)
and-true true b is = (refl, is)
and-true false b is = let wrong : false ≡ true = is in cc

same-form : (a b : CallForm) → forms.eq a b ≡ true → a ≡ b
same-form form.Static form.Static is = refl
same-form form.Special form.Special is = refl
same-form form.Virtual form.Virtual is = refl
same-form form.Dynamic form.Dynamic is = refl
same-form form.Static form.Special is = let wrong : false ≡ true = is in cc
same-form form.Static form.Virtual is = let wrong : false ≡ true = is in cc
same-form form.Static form.Dynamic is = let wrong : false ≡ true = is in cc
same-form form.Special form.Static is = let wrong : false ≡ true = is in cc
same-form form.Special form.Virtual is = let wrong : false ≡ true = is in cc
same-form form.Special form.Dynamic is = let wrong : false ≡ true = is in cc
same-form form.Virtual form.Static is = let wrong : false ≡ true = is in cc
same-form form.Virtual form.Special is = let wrong : false ≡ true = is in cc
same-form form.Virtual form.Dynamic is = let wrong : false ≡ true = is in cc
same-form form.Dynamic form.Static is = let wrong : false ≡ true = is in cc
same-form form.Dynamic form.Special is = let wrong : false ≡ true = is in cc
same-form form.Dynamic form.Virtual is = let wrong : false ≡ true = is in cc

make : CallForm → ℕ → ℕ → ℕ → ℕ → Reference
make f c n d k = record { form = f; class = c; name = n; descr = d; caller = k }

pub one-reference : (a b : Reference) → same_reference a b ≡ true → a ≡ b
unfolding make
one-reference a b is =
    let forms-are = and-true (forms.eq a.form b.form) ((a.class == b.class) && ((a.name == b.name) && ((a.descr == b.descr) && (a.caller == b.caller)))) is in
    let classes-are = and-true (a.class == b.class) ((a.name == b.name) && ((a.descr == b.descr) && (a.caller == b.caller))) forms-are.1 in
    let names-are = and-true (a.name == b.name) ((a.descr == b.descr) && (a.caller == b.caller)) classes-are.1 in
    let descrs-are = and-true (a.descr == b.descr) (a.caller == b.caller) names-are.1 in
    ap (λ f. make f a.class a.name a.descr a.caller) (same-form a.form b.form forms-are.0)
    ∙ ap (λ c. make b.form c a.name a.descr a.caller) (eqb-true a.class b.class classes-are.0)
    ∙ ap (λ n. make b.form b.class n a.descr a.caller) (eqb-true a.name b.name names-are.0)
    ∙ ap (λ d. make b.form b.class b.name d a.caller) (eqb-true a.descr b.descr descrs-are.0)
    ∙ ap (λ k. make b.form b.class b.name b.descr k) (eqb-true a.caller b.caller descrs-are.1)
