-- The laws of the plain twins, for the attribute `using`.
use Rattle.std.proofs.lemmas.Grind.{common_steps}
use Rattle.sig_model.specs.PlainTyLaws.{plain_ty-Name, plain_ty-Single, plain_ty-Opt, plain_ty-Union, plain_ty-Inter, plain_ty-Tuple, plain_ty-Rec, plain_ty-Fun, plain_ty-Int, plain_ty-Str, plain_ty-Sym, plain_ty-Base, plain_fun-roll, plain_fun-out, out-block, out-fun, plain_tys-append, plain_keys-append, plain_args-append, append_tys-none, append_tys-assoc, append_keys-none, append_keys-assoc, append_args-none, append_args-assoc}
use Rattle.sig_model.specs.PlainDeclLaws.{plain_body-Class, plain_body-Module, plain_body-Iface, plain_body-Alias, plain_body-Const, part_before-Inner, part_before-Member, plain_parts-append, plain_decls-append, append_parts-none, append_parts-assoc, append_decls-none, append_decls-assoc}

-- of types
pub ruleset plain_types = (plain_ty-Name, plain_ty-Single, plain_ty-Opt, plain_ty-Union, plain_ty-Inter, plain_ty-Tuple, plain_ty-Rec, plain_ty-Fun, plain_ty-Int, plain_ty-Str, plain_ty-Sym, plain_ty-Base, plain_fun-roll, plain_fun-out, out-block, out-fun, plain_tys-append, plain_keys-append, plain_args-append, append_tys-none, append_tys-assoc, append_keys-none, append_keys-assoc, append_args-none, append_args-assoc)

-- of declarations and members
pub ruleset plain_decls_of = (plain_body-Class, plain_body-Module, plain_body-Iface, plain_body-Alias, plain_body-Const, part_before-Inner, part_before-Member, plain_parts-append, plain_decls-append, append_parts-none, append_parts-assoc, append_decls-none, append_decls-assoc)

-- of both
pub ruleset plain_all = (plain_types, plain_decls_of)

-- of both, with the usual lemmas on lists, for loops
pub ruleset plain_steps = (common_steps, plain_all)
