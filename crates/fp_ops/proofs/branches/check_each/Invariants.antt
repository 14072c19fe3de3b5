use Rattle.std.proofs.Common.{◌≡◌, ◌+◌, ◌-◌, ◌≤◌, length, drop}
use Rattle.std.specs.List.{flat_map}
use Rattle.fp_model.specs.declared.fault.FileFault.TheVariants as fault
use Rattle.fp_model.specs.Reading.{demanded}
use Rattle.fp_model.specs.Spelling.{spelled_ins}
use Rattle.fp_model.specs.Branches.{leads_to, starts_at, targets_checked}
use Rattle.fp_model.specs.References.{each_checked}
use Rattle.fp_ops.proofs.branches.check_each.Given as goal

-- what is left decides
abbrev pub invariant-loop-ins : goal.invariant-loop-ins
invariant-loop-ins l = record {
  within : l.at ≤ l.next;
  at : l.next + length (flat_map spelled_ins (drop l.ins-index l.code)) ≡ l.at + length (flat_map spelled_ins l.code);
  rest : each_checked spelled_ins (λ at ins. demanded (leads_to (starts_at 0 l.code) (at - l.at) ins) (fault.Bounds at)) l.next (drop l.ins-index l.code) ≡ targets_checked l.code l.at;
}
