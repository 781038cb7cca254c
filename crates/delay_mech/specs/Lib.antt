pub mod DelaysView
