-- No two rules have the same name.
use Rattle.std.proofs.Common.{◌≡◌, ℕ, List, [], ◌∷◌, Option, Some, refl, sym, ap, ◌∙◌}
use Rattle.std.specs.List.{find}
use Rattle.std.specs.Option.{unwrap_or}
use Rattle.std.specs.Str.{bytes_eq}
use Rattle.sig_model.specs.declared.diag.DiagId.{DiagId}
use Rattle.sig_model.specs.declared.diag.DiagId.TheVariants as id
use Rattle.diagnostics.specs.Texts.{id_text}

abbrev rules : List DiagId
rules =
    id.SignatureSyntaxError ∷ id.UnknownTypeName ∷ id.DuplicatedDeclaration ∷ id.DuplicatedMethodDefinition ∷
    id.GenericParameterMismatch ∷ id.SuperclassMismatch ∷ id.UnknownMethodAlias ∷ id.RecursiveTypeAlias ∷
    id.NonregularTypeAlias ∷ id.RecursiveAncestor ∷ id.InvalidTypeApplication ∷
    id.UnsatisfiableTypeApplication ∷ id.InvalidVarianceAnnotation ∷ id.ModuleSelfTypeError ∷
    id.InstanceVariableTypeError ∷ id.RubySyntaxError ∷ id.UnsupportedSyntax ∷ id.UnknownConstant ∷
    id.NoMethod ∷ id.InsufficientPositionalArguments ∷ id.UnexpectedPositionalArgument ∷
    id.InsufficientKeywordArguments ∷ id.UnexpectedKeywordArgument ∷ id.RequiredBlockMissing ∷
    id.UnexpectedBlockGiven ∷ id.ArgumentTypeMismatch ∷ id.BlockTypeMismatch ∷ id.BlockBodyTypeMismatch ∷
    id.MethodBodyTypeMismatch ∷ id.ReturnTypeMismatch ∷ id.IncompatibleAssignment ∷ id.UnresolvedOverloading ∷
    id.FallbackAny ∷ id.UnknownInstanceVariable ∷ id.UndeclaredMethodDefinition ∷ id.MethodDefinitionMissing ∷
    id.MethodArityMismatch ∷ id.UnexpectedSuper ∷ id.UnexpectedYield ∷ id.UnexpectedJump ∷ id.StrictLimit ∷
    id.StrictRepeatedPrepend ∷ id.StrictArgumentClash ∷ id.StrictOverrideMismatch ∷ id.StrictModuleSuper ∷
    id.StrictNilVariable ∷ id.StrictModuleInitialize ∷ id.StrictCoreSuperclass ∷ id.StrictReservedMethod ∷
    id.StrictUntyped ∷ id.StrictUnsupportedType ∷ id.StrictSuperclassMismatch ∷ id.StrictMixinMismatch ∷
    id.StrictVisibilityMismatch ∷ id.StrictClassMissing ∷ id.StrictConstantMissing ∷ id.StrictMethodTwice ∷
    id.StrictConstantTwice ∷ id.StrictLoadOrder ∷ id.StrictCoreReopened ∷ id.StrictStatementsNotLast ∷
    id.StrictAliasedSuper ∷ id.StrictBoundExceeded ∷ id.StrictSelfEscapes ∷ id.StrictUnsetVariable ∷
    id.StrictUnsteadyNew ∷ id.StrictTupleIndex ∷ id.StrictRecordKey ∷ id.StrictUnreachableCode ∷ []

-- the first rule with this name
abbrev named : List ℕ → Option DiagId
named text = find (λ rule. bytes_eq (id_text rule) text) rules

found : (rule : DiagId) → named (id_text rule) ≡ Some rule
found id.SignatureSyntaxError = refl
found id.UnknownTypeName = refl
found id.DuplicatedDeclaration = refl
found id.DuplicatedMethodDefinition = refl
found id.GenericParameterMismatch = refl
found id.SuperclassMismatch = refl
found id.UnknownMethodAlias = refl
found id.RecursiveTypeAlias = refl
found id.NonregularTypeAlias = refl
found id.RecursiveAncestor = refl
found id.InvalidTypeApplication = refl
found id.UnsatisfiableTypeApplication = refl
found id.InvalidVarianceAnnotation = refl
found id.ModuleSelfTypeError = refl
found id.InstanceVariableTypeError = refl
found id.RubySyntaxError = refl
found id.UnsupportedSyntax = refl
found id.UnknownConstant = refl
found id.NoMethod = refl
found id.InsufficientPositionalArguments = refl
found id.UnexpectedPositionalArgument = refl
found id.InsufficientKeywordArguments = refl
found id.UnexpectedKeywordArgument = refl
found id.RequiredBlockMissing = refl
found id.UnexpectedBlockGiven = refl
found id.ArgumentTypeMismatch = refl
found id.BlockTypeMismatch = refl
found id.BlockBodyTypeMismatch = refl
found id.MethodBodyTypeMismatch = refl
found id.ReturnTypeMismatch = refl
found id.IncompatibleAssignment = refl
found id.UnresolvedOverloading = refl
found id.FallbackAny = refl
found id.UnknownInstanceVariable = refl
found id.UndeclaredMethodDefinition = refl
found id.MethodDefinitionMissing = refl
found id.MethodArityMismatch = refl
found id.UnexpectedSuper = refl
found id.UnexpectedYield = refl
found id.UnexpectedJump = refl
found id.StrictLimit = refl
found id.StrictRepeatedPrepend = refl
found id.StrictArgumentClash = refl
found id.StrictOverrideMismatch = refl
found id.StrictModuleSuper = refl
found id.StrictNilVariable = refl
found id.StrictModuleInitialize = refl
found id.StrictCoreSuperclass = refl
found id.StrictReservedMethod = refl
found id.StrictUntyped = refl
found id.StrictUnsupportedType = refl
found id.StrictSuperclassMismatch = refl
found id.StrictMixinMismatch = refl
found id.StrictVisibilityMismatch = refl
found id.StrictClassMissing = refl
found id.StrictConstantMissing = refl
found id.StrictMethodTwice = refl
found id.StrictConstantTwice = refl
found id.StrictLoadOrder = refl
found id.StrictCoreReopened = refl
found id.StrictStatementsNotLast = refl
found id.StrictAliasedSuper = refl
found id.StrictBoundExceeded = refl
found id.StrictSelfEscapes = refl
found id.StrictUnsetVariable = refl
found id.StrictUnsteadyNew = refl
found id.StrictTupleIndex = refl
found id.StrictRecordKey = refl
found id.StrictUnreachableCode = refl

pub one_name : (d e : DiagId) → id_text d ≡ id_text e → d ≡ e
one_name d e same = ap (λ o. unwrap_or o d) (sym (found d) ∙ ap named same ∙ found e)
