-- The words of commands are words.
use Rattle.std.proofs.Common.{◌/◌, ◌%◌, ℕ, Bool, true, false, codes, refl, arith}
use Rattle.std.proofs.Math.IntN.{nat_abs}
use Rattle.xm_num.specs.declared.Access.{Access}
use Rattle.xm_num.specs.declared.Access.TheVariants as accesses
use Rattle.xm_num.specs.declared.Kind.{Kind}
use Rattle.xm_num.specs.declared.Kind.TheVariants as kinds
use Rattle.xm_num.specs.declared.Want.{Want}
use Rattle.xm_num.specs.declared.Want.TheVariants as wants
use Rattle.xemem_language.specs.declared.command.Command.{Command}
use Rattle.xemem_language.specs.declared.command.Command.TheVariants as commands
use Rattle.xemem_language.specs.Spelling.{ns_word, want_word, access_word, kind_word, mode_word, digit_of, command_words}
use Rattle.text_words.specs.Laws.{WordLaws}
use Rattle.text_words.specs.Solid.{IsSolidByte, IsWord, AreWords}

want_name : (laws : WordLaws) (want : Want) → IsWord (want_word want)
want_name laws wants.Read = laws.name (codes "r") refl
want_name laws wants.Write = laws.name (codes "w") refl

access_name : (laws : WordLaws) (access : Access) → IsWord (access_word access)
access_name laws accesses.ReadOnly = laws.name (codes "ro") refl
access_name laws accesses.ReadWrite = laws.name (codes "rw") refl

kind_name : (laws : WordLaws) (kind : Kind) → IsWord (kind_word kind)
kind_name laws kinds.Host = laws.name (codes "host") refl
kind_name laws kinds.Cokernel = laws.name (codes "cokernel") refl
kind_name laws kinds.Vm = laws.name (codes "vm") refl

digit_solid : (n : ℕ) → IsSolidByte (digit_of n)
digit_solid n = record { no_space = λ e. omega arith; no_tab = λ e. omega arith; no_feed = λ e. omega arith }

mode_name : (mode : ℕ) → IsWord (mode_word mode)
mode_name mode = record { filled = omega arith; solid = (digit_solid 0, (digit_solid (mode / 64 % 8), (digit_solid (mode / 8 % 8), (digit_solid (mode % 8), tt)))) }

ns_words : (laws : WordLaws) (ns : Bool) → AreWords (ns_word ns)
ns_words laws true = (laws.name (codes "ns") refl, tt)
ns_words laws false = tt

pub command_in_words : (laws : WordLaws) (command : Command) → AreWords (command_words command)
command_in_words laws (commands.Pool blocks) = (laws.name (codes "pool") refl, (laws.number blocks, tt))
command_in_words laws (commands.Host blocks ns) = (laws.name (codes "host") refl, (laws.number blocks, ns_words laws ns))
command_in_words laws (commands.Boot kind parent blocks ns) = (laws.name (codes "boot") refl, (kind_name laws kind, (laws.name (codes "under") refl, (laws.number parent.0, (laws.name (codes "blocks") refl, (laws.number blocks, ns_words laws ns))))))
command_in_words laws (commands.Proc e uid gid) = (laws.name (codes "proc") refl, (laws.number e.0, (laws.number uid, (laws.number gid, tt))))
command_in_words laws (commands.Alloc e p at pages) = (laws.name (codes "alloc") refl, (laws.number e.0, (laws.number p.0, (laws.number at.0, (laws.number pages, tt)))))
command_in_words laws (commands.Free e p at pages) = (laws.name (codes "free") refl, (laws.number e.0, (laws.number p.0, (laws.number at.0, (laws.number pages, tt)))))
command_in_words laws (commands.Make e p addr size mode) = (laws.name (codes "make") refl, (laws.number e.0, (laws.number p.0, (laws.number addr, (laws.number size, (mode_name mode, tt))))))
command_in_words laws (commands.Remove e p segid) = (laws.name (codes "remove") refl, (laws.number e.0, (laws.number p.0, (laws.number (nat_abs segid.0), tt))))
command_in_words laws (commands.Get e p segid access) = (laws.name (codes "get") refl, (laws.number e.0, (laws.number p.0, (laws.number (nat_abs segid.0), (access_name laws access, tt)))))
command_in_words laws (commands.Release e p apid) = (laws.name (codes "release") refl, (laws.number e.0, (laws.number p.0, (laws.number (nat_abs apid.0), tt))))
command_in_words laws (commands.Attach e p apid offset size addr) = (laws.name (codes "attach") refl, (laws.number e.0, (laws.number p.0, (laws.number (nat_abs apid.0), (laws.number offset, (laws.number size, (laws.number addr, tt)))))))
command_in_words laws (commands.Detach e p addr) = (laws.name (codes "detach") refl, (laws.number e.0, (laws.number p.0, (laws.number addr, tt))))
command_in_words laws (commands.Exit e p) = (laws.name (codes "exit") refl, (laws.number e.0, (laws.number p.0, tt)))
command_in_words laws (commands.Touch e p addr want) = (laws.name (codes "touch") refl, (laws.number e.0, (laws.number p.0, (laws.number addr, (want_name laws want, tt)))))
command_in_words laws (commands.Deliver x y count) = (laws.name (codes "deliver") refl, (laws.number x.0, (laws.number y.0, (laws.number count, tt))))
command_in_words laws (commands.Settle most) = (laws.name (codes "settle") refl, (laws.number most, tt))
command_in_words laws (commands.Kill e cut) = (laws.name (codes "kill") refl, (laws.number e.0, (laws.name (codes "cut") refl, (laws.number cut, tt))))
command_in_words laws (commands.Stop e) = (laws.name (codes "stop") refl, (laws.number e.0, tt))
command_in_words laws (commands.ShowMaps e p) = (laws.name (codes "show") refl, (laws.name (codes "maps") refl, (laws.number e.0, (laws.number p.0, tt))))
command_in_words laws (commands.ShowRoutes e) = (laws.name (codes "show") refl, (laws.name (codes "routes") refl, (laws.number e.0, tt)))
command_in_words laws (commands.ShowPins e) = (laws.name (codes "show") refl, (laws.name (codes "pins") refl, (laws.number e.0, tt)))
command_in_words laws (commands.ShowLink x y) = (laws.name (codes "show") refl, (laws.name (codes "link") refl, (laws.number x.0, (laws.number y.0, tt))))
command_in_words laws commands.ShowPool = (laws.name (codes "show") refl, (laws.name (codes "pool") refl, tt))
command_in_words laws commands.ShowNames = (laws.name (codes "show") refl, (laws.name (codes "names") refl, tt))
