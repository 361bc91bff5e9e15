-- What statements see, and what statements and blocks give out.
use Rattle.std.specs.Prelude.{ℕ, List, [], ◌∷◌, ◌++◌, Some, drop, map, take}
use Rattle.wdl_value.specs.declared.ty.Member.{Member}
use Rattle.wdl_value.specs.declared.ty.Ty.{Ty}
use Rattle.wdl_value.specs.declared.ty.Ty.TheVariants as ty
use Rattle.wdl_typed.specs.declared.scope.Bound.{Bound}
use Rattle.wdl_typed.specs.declared.task.TDecl.{TDecl}
use Rattle.wdl_typed.specs.Bodies.{Seen, optional}
use Rattle.wdl_typed.specs.Declarations.{bound}
use Rattle.wdl_check_flow.specs.declared.visible.Gathering.{Gathering}
use Rattle.wdl_check_flow.specs.declared.visible.Gathering.TheVariants.{List as ListOf, Optional}
use Rattle.wdl_check_flow.specs.declared.visible.Visible.{Visible}

abbrev pub seen_of : Visible → Seen
seen_of v = record { names = v.names; calls = v.calls }

abbrev pub nothing : Seen
nothing = record { names = []; calls = [] }

abbrev pub decl_gives : TDecl → Seen
decl_gives d = record { names = bound d.name d.ty ∷ []; calls = [] }

abbrev pub output_bound : List ℕ → Member → Bound
output_bound call m = record { key = record { first = call; second = Some m.name }; ty = m.ty }

abbrev pub outputs_give : List ℕ → List Member → Seen
outputs_give call outputs = record { names = map (output_bound call) outputs; calls = [] }

-- the outputs of a call, and for `after` its own name
abbrev pub call_gives : List ℕ → List Member → Seen
call_gives call outputs = record { names = map (output_bound call) outputs; calls = call ∷ [] }

-- Outside a scatter a name is an array, with `+` where the collection has it; outside a condition it is optional.
abbrev pub gathered : Gathering → Ty → Ty
gathered (ListOf some) t = ty.Array t some
gathered Optional t = optional t

abbrev pub retyped_names : (Ty → Ty) → List Bound → List Bound
retyped_names f = map (λ (b : Bound). record { key = b.key; ty = f b.ty })

-- the first names stay, and those behind the second number are gathered
abbrev pub gathered_behind : Gathering → ℕ → ℕ → Seen → Seen
gathered_behind g kept from s = record {
  names = take kept s.names ++ retyped_names (gathered g) (drop from s.names);
  calls = s.calls;
}
