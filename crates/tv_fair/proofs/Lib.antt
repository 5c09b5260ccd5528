mod Fresh
