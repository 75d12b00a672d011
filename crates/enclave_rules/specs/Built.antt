-- Which commands are built.
use Rattle.std.specs.Prelude.{Bool, true, false}
use Rattle.xm_num.specs.declared.Kind.{Kind}
use Rattle.xm_num.specs.declared.Kind.TheVariants as kinds
use Rattle.xemem_language.specs.declared.command.Command.{Command}
use Rattle.xemem_language.specs.declared.command.Command.TheVariants as commands

abbrev pub is_cokernel : Kind → Bool
is_cokernel kinds.Host = false
is_cokernel kinds.Cokernel = true
is_cokernel kinds.Vm = false

-- the forms that are built
abbrev pub is_built : Command → Bool
is_built (commands.Pool blocks) = true
is_built (commands.Host blocks ns) = true
is_built (commands.Boot kind parent blocks ns) = is_cokernel kind
is_built (commands.Proc e uid gid) = true
is_built (commands.Alloc e p at pages) = true
is_built (commands.Make e p addr size mode) = true
is_built (commands.Remove e p segid) = true
is_built (commands.Touch e p addr want) = true
is_built (commands.Deliver x y count) = true
is_built (commands.Settle most) = true
is_built (commands.ShowRoutes e) = true
is_built (commands.ShowLink x y) = true
is_built commands.ShowPool = true
is_built commands.ShowNames = true
is_built command = false
