-- The real files and streams.
use Rattle.std.specs.Prelude.{ℕ, ◌+◌, ◌-◌, List, length}
use Rattle.fp_base.specs.Calls.{Call}
use Rattle.fp_base.specs.declared.host.walk.Walk.{Walk}
use Rattle.fp_base.specs.declared.host.walk.TheConstants.{MAX_ENTRIES}

-- what the last listing answered, which calls failed, and how often a file was asked for
pub record HostDirState : Type 0 where
  pub listed : List (List ℕ)
  pub failed : List Call
  pub readings : ℕ

-- how many puts failed
pub record HostSinkState : Type 0 where
  pub faults : ℕ

-- how many directories a walk may still visit: those that wait, and one for each entry that it may still meet
abbrev pub visits_left : Walk → ℕ
visits_left walk = length walk.pending.items + (MAX_ENTRIES - walk.entries)
