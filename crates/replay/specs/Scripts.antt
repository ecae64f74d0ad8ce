-- What the lines of a script leave of it.
use Rattle.std.specs.Prelude.{◌≡◌, Some, None, Option, Vec}
use Rattle.replay.specs.declared.script.Script.{Script}
use Rattle.std.specs.declared.alloc.Global.{Global}
use Rattle.umpire.specs.declared.calls.Call.{Call}

-- a new script has the calls that it was given
abbrev pub Begun : Vec Call Global → Option Script → Type 0
Begun calls None = Unit {0}
Begun calls (Some s) = s.calls ≡ calls

-- a line changes neither the match nor the calls so far
pub record Kept (s t : Script) : Type 0 where
  pub heading : t.heading ≡ s.heading
  pub calls : t.calls ≡ s.calls
