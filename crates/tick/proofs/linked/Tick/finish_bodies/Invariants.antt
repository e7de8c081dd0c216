-- The first of the bodies are written.
use mathlib.Core.Path.{refl}
use Rattle.loader.specs.Parts.{linkage_in}
use Rattle.state.specs.State.{body_numbers, numbers_of}
use Rattle.tick.specs.Tick.{new_body}
use Rattle.tick.proofs.Written.{Written}
use Rattle.tick.proofs.linked.Tick.finish_bodies.Given as goal

abbrev pub invariant-loop-i : goal.invariant-loop-i
invariant-loop-i l = Written numbers_of body_numbers (λ _. refl) (new_body (linkage_in l.self.linkage) l.self.state.now) 0 l.initial.new l.i l.new
