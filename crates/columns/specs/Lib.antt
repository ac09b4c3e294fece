-- One column for eight rows at once: what each public function leaves.
-- Assumes nothing.
pub mod Calls
