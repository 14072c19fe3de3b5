use Rattle.std.proofs.Common.{◌<◌, ℕ, All, get_or, length, subst, sym}
use Rattle.std.proofs.lemmas.List.Elements.{All-push}
use Rattle.fp_hier.proofs.DeclaringClasses.{declaring}
use Rattle.fp_rta.proofs.DeclaredClasses.{class-more}
use Rattle.fp_rta.proofs.givers.declaring.Goals as goal

pub loop-method-preserved : goal.loop-method-preserved
loop-method-preserved c =
    let classes = c.args.set.now.classes in
    let methods = c.args.methods.now in
    let i = c.loop-method.method-index in
    let class = c.class_of_method.result in
    let told = c.class_of_method.ensures in
    record {
      classes = class-more classes c.loop-method.classes.items c.push.new.self.items methods i class c.loop-method-test.true (declaring classes (get_or methods i 0) class told.class told.from told.to) c.loop-method.invariant.classes c.in_ok-push.ensures.items;
      known = subst (λ l. All (λ (k : ℕ). k < length classes) l) (sym c.in_ok-push.ensures.items) (All-push (λ (k : ℕ). k < length classes) c.loop-method.classes.items class c.loop-method.invariant.known told.class);
    }
