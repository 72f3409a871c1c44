-- Laws of the slot writer: fields laid down one after another are the slot, and a slot laid down in a table is a store.
pub mod WriteLaws
