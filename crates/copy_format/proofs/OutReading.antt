-- An entry whose item is another's is that entry.
use Rattle.std.proofs.Common.{◌≡◌, ◌≤◌, ◌++◌, ◌∷◌, ℕ, List, None, Option, Some, sym, ap, ◌∙◌, append_assoc, subst}
use Rattle.std.proofs.Common.{arith}
use Rattle.std.specs.Prelude.{IfSome}
use Rattle.keeper_memory.specs.copy.Copies.{IsOutWrite}
use Rattle.keeper_memory.specs.declared.copy.entry.OutEntry.{OutEntry}
use Rattle.keeper_memory.specs.declared.copy.state.TheConstants.{LAST}
use Rattle.hub_format.specs.Format.{Entry}
use Rattle.hub_format.specs.Pieces.{IsSized, flag, number, sized}
use Rattle.roster_values.specs.Kinds.{place_of_kind}
use Rattle.version_core.specs.declared.mark.Write.{Write}
use Rattle.copy_format.specs.Bodies.{optional_settled, write_bytes}
use Rattle.copy_format.specs.Format.{FitsSettled, IsOut, out_entry}
use Rattle.copy_format.proofs.Decoding.{out_back}

-- the parts of an item
module _ (entry : Entry) (n : ℕ) (delete kind : ℕ) (id text rest : List ℕ) (write : Write) (label : entry.0 ≡ number n) (body : entry.1 ≡ delete ∷ kind ∷ (sized id ++ (sized text ++ rest)))
    (parts : (flag write.delete ≡ delete) × (place_of_kind write.kind ≡ kind) × (write.id ≡ id) × (write.body ≡ text)) where
  written : write_bytes write ++ rest ≡ entry.1
  written = (λ i. parts.0 i ∷ parts.1 i ∷ append_assoc (sized (parts.2 i)) (sized (parts.3 i)) rest i) ∙ sym body

  pub out_whole : (r : Option OutEntry) → IfSome r (λ e. e.number ≡ n) → IfSome r (λ e. e.write ≡ write) → IfSome r (λ e. rest ≡ optional_settled e.settled) → IfSome r (λ e. entry ≡ out_entry e)
  out_whole None numbers writes settled = tt
  out_whole (Some e) numbers writes settled =
      let labels = label ∙ ap number (sym numbers) in
      let bodies = sym written ∙ (λ i. write_bytes (sym writes i) ++ settled i) in
      λ i. (labels i, bodies i)

  pub out_read : (r : Option OutEntry) (other : OutEntry) → IsSized id → IfSome r (λ e. e.number ≡ n) → IfSome r (λ e. e.write ≡ write) → IfSome r (λ e. rest ≡ optional_settled e.settled)
      → IfSome r (λ e. IfSome e.settled FitsSettled) → IfSome r (λ e. e.number ≤ LAST) → IfSome r (λ e. IsOutWrite e.write) → IsOut other → entry ≡ out_entry other → IfSome r (λ e. e ≡ other)
  out_read None other short numbers writes settled fits low can is same = tt
  out_read (Some e) other short numbers writes settled fits low can is same =
      let small = subst IsSized (sym (ap (λ (w : Write). w.id) writes ∙ parts.2)) short in
      out_back e other (record { number = omega (arith, low); write = can; fits = record { id = small; settled = fits } }) is (sym (out_whole (Some e) numbers writes settled) ∙ same)
