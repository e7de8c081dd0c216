-- Whether a body is among the solver's, for the contracts that ask by its index: Body.antt needs none of it.
use Rattle.std.specs.Prelude.{Bool, not, eqb}
use Rattle.solver_body.specs.declared.SolverBodyIndex.{SolverBodyIndex}

-- the index of an anchored body
abbrev pub invalid_index : SolverBodyIndex
invalid_index = record { 0 = 0xffff_ffff }

abbrev pub is_valid : SolverBodyIndex → Bool
is_valid i = not (eqb i.0 invalid_index.0)
